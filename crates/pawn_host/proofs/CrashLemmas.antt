-- What a crash may leave: seen from an earlier start, after two runs, and in terms of whole requests.
use Rattle.pawn_book.specs.Plans.{IsLeftByStep, next_host}
use Rattle.pawn_host.specs.Common.{Host, IsSound, Keeping, Makes, Mark, Outcome, Refuses, Says, Stamp, WireFault}
use Rattle.pawn_host.specs.Common.{host_after_event, host_after_mark, host_step, no_memory, no_store, read_as, Reads}
use Rattle.pawn_host.specs.Crashes.{IsDone, IsLeftByMark, IsLeftByRun, IsLeftWhole, IsOneMore}
use Rattle.pawn_host.specs.Keeps.{GoesBy, GoesTo, Kept, Start, start_after}
use Rattle.pawn_host.specs.Run.{Item, event_of, host_after_run}
use Rattle.std.proofs.Common.{◌≡◌, ◌∙◌, ◌⊎◌, ℕ, suc, List, [], ◌∷◌, ◌++◌, inl, inr, refl, ap, sym, subst, Ok, Err}
use Rattle.pawn_book.specs.HostStep as book

-- ---- seen from a start at which a crash might have left more

step_wider : (h : Host) (b : ℕ) (o : Outcome) (these those : Host → Type 0) → ((g : Host) → these g → those g) → (left : Host) → IsLeftByStep h b o these left
    → IsLeftByStep h b o those left
step_wider h b (Refuses why) these those wider left by = wider left by
step_wider h b (Says out) these those wider left by = wider left by
step_wider h b (Makes change reply) these those wider left by = by

mark_wider : (h : Host) (operator : ℕ) (stamp : Stamp) (bytes : List ℕ) (mark : Mark WireFault) (these those : Host → Type 0) → ((g : Host) → these g → those g)
    → (left : Host) → IsLeftByMark h operator stamp bytes mark these left → IsLeftByMark h operator stamp bytes mark those left
mark_wider h operator stamp bytes (read_as (Ok request)) these those wider left by =
    step_wider h request.book (host_step h operator stamp request) these those wider left by
mark_wider h operator stamp bytes (read_as (Err fault)) these those wider left by = wider left by
mark_wider h operator stamp bytes no_memory these those wider left (inl by) = inl (wider left by)
mark_wider h operator stamp bytes no_memory these those wider left (inr done) = inr done
mark_wider h operator stamp bytes no_store these those wider left (inl by) = inl (wider left by)
mark_wider h operator stamp bytes no_store these those wider left (inr done) = inr done

pub run_wider : (h : Host) (operator : ℕ) (items : List Item) (these those : Host → Type 0) → ((g : Host) → these g → those g) → (left : Host)
    → IsLeftByRun h operator items these left → IsLeftByRun h operator items those left
run_wider h operator [] these those wider left by = wider left by
run_wider h operator (x ∷ items) these those wider left by =
    run_wider (host_after_event h operator (event_of x)) operator items (IsLeftByMark h operator x.stamp x.bytes x.mark these)
    (IsLeftByMark h operator x.stamp x.bytes x.mark those) (mark_wider h operator x.stamp x.bytes x.mark these those wider) left by

pub goes_wider : {kept : Kept} {h : Host} {these those : Host → Type 0} → GoesTo kept h these → ((left : Host) → these left → those left) → GoesTo kept h those
goes_wider goes wider = record { stands_for = goes.stands_for; sound = goes.sound; crash = λ left by. wider left (goes.crash left by) }

-- the same start, seen from an earlier one
abbrev pub seen_from : Start → Start → Start
seen_from before now = record { Steady = before.Steady; operator = before.operator; host = now.host; leaves = before.leaves }

pub goes_from : (before now : Start) (items : List Item) (kept : Kept) → now.operator ≡ before.operator → ((left : Host) → now.leaves left → before.leaves left)
    → GoesBy now items kept → GoesBy (seen_from before now) items kept
goes_from before now items kept same wider goes =
    goes_wider (subst (λ (o : ℕ). GoesTo kept (host_after_run now.host o items) (IsLeftByRun now.host o items now.leaves)) same goes)
    (run_wider now.host before.operator items now.leaves before.leaves wider)

-- ---- a call that changes nothing

-- the keeper was not called
pub goes_none : {K : Type 0} (k : Keeping K) (keep : K) (h : Host) → k.stands keep h → IsSound h
    → GoesTo (record { stands = k.stands keep; leaves = k.leaves keep }) h (k.leaves keep)
goes_none k keep h at sound = record { stands_for = at; sound = sound; crash = λ left by. by }

-- the keeper was called
pub goes_read : {K : Type 0} {k : Keeping K} {old new : K} {P : Host → Type 0} → Reads k old new P → k.honest new → (h : Host) → k.stands old h → IsSound h
    → GoesTo (record { stands = k.stands new; leaves = k.leaves new }) h (k.leaves old)
goes_read reads honest h at sound = record { stands_for = reads.same honest h at; sound = sound; crash = reads.crash honest }

-- ---- one run after another

pub host_after-append : (h : Host) (operator : ℕ) (a b : List Item)
    → host_after_run h operator (a ++ b) ≡ host_after_run (host_after_run h operator a) operator b
host_after-append h operator [] b = refl
host_after-append h operator (x ∷ a) b = host_after-append (host_after_event h operator (event_of x)) operator a b

pub left_by-append : (h : Host) (operator : ℕ) (a b : List Item) (before : Host → Type 0) (left : Host)
    → IsLeftByRun (host_after_run h operator a) operator b (IsLeftByRun h operator a before) left → IsLeftByRun h operator (a ++ b) before left
left_by-append h operator [] b before left by = by
left_by-append h operator (x ∷ a) b before left by =
    left_by-append (host_after_event h operator (event_of x)) operator a b (IsLeftByMark h operator x.stamp x.bytes x.mark before) left by

pub goes-append : (start : Start) (kept : Kept) (a b : List Item) → GoesBy (start_after start a) b kept → GoesBy start (a ++ b) kept
goes-append start kept a b goes = record {
  stands_for = subst kept.stands (sym (host_after-append start.host start.operator a b)) goes.stands_for;
  sound = subst IsSound (sym (host_after-append start.host start.operator a b)) goes.sound;
  crash = λ left by. left_by-append start.host start.operator a b start.leaves left (goes.crash left by);
}

-- ---- a crash leaves whole requests

whole_step : (h : Host) (b : ℕ) (o : Outcome) (before : Host → Type 0) (left : Host) → IsLeftByStep h b o before left
    → (before left × (book.host_after h b o ≡ h)) ⊎ (left ≡ book.host_after h b o)
whole_step h b (Refuses why) before left by = inl (by, refl)
whole_step h b (Says out) before left by = inl (by, refl)
whole_step h b (Makes change reply) before left by = inr by

-- the hosts that a crash may leave after an item: the host after it; a host of before, if it changed nothing; or a host with its change
data WholeItem (h : Host) (operator : ℕ) (stamp : Stamp) (bytes : List ℕ) (mark : Mark WireFault) (before : Host → Type 0) (left : Host) : Type 0 where
  same : before left → host_after_mark h operator stamp mark ≡ h → WholeItem h operator stamp bytes mark before left
  after : left ≡ host_after_mark h operator stamp mark → WholeItem h operator stamp bytes mark before left
  more : (mark ≡ no_memory) ⊎ (mark ≡ no_store) → host_after_mark h operator stamp mark ≡ h → IsDone h operator stamp bytes left
      → WholeItem h operator stamp bytes mark before left

whole_item : (h : Host) (operator : ℕ) (stamp : Stamp) (bytes : List ℕ) (mark : Mark WireFault) (before : Host → Type 0) (left : Host)
    → IsLeftByMark h operator stamp bytes mark before left → WholeItem h operator stamp bytes mark before left
whole_item h operator stamp bytes (read_as (Ok request)) before left by = elim (whole_step h request.book (host_step h operator stamp request) before left by) [
  | inl s ↦ same s.0 s.1
  | inr a ↦ after a
]
whole_item h operator stamp bytes (read_as (Err fault)) before left by = same by refl
whole_item h operator stamp bytes no_memory before left (inl by) = same by refl
whole_item h operator stamp bytes no_memory before left (inr done) = more (inl refl) refl done
whole_item h operator stamp bytes no_store before left (inl by) = same by refl
whole_item h operator stamp bytes no_store before left (inr done) = more (inr refl) refl done

-- the same after the items of a run
abbrev IsWhole : Host → ℕ → List Item → (Host → Type 0) → Host → Type 0
IsWhole h operator items before left = (before left × (host_after_run h operator items ≡ h)) ⊎ (left ≡ host_after_run h operator items)
    ⊎ IsOneMore (host_after_run h operator items) operator items left

whole_run : (h : Host) (operator : ℕ) (items : List Item) (before : Host → Type 0) (left : Host) → IsLeftByRun h operator items before left
    → IsWhole h operator items before left
whole_run h operator [] before left by = inl (by, refl)
whole_run h operator (x ∷ items) before left by = from (whole_run next operator items (IsLeftByMark h operator x.stamp x.bytes x.mark before) left by) where
  next : Host
  next = host_after_event h operator (event_of x)

  here : host_after_run next operator items ≡ next → WholeItem h operator x.stamp x.bytes x.mark before left → IsWhole h operator (x ∷ items) before left
  here still (same was unchanged) = inl (was, still ∙ unchanged)
  here still (after is) = inr (inl (is ∙ sym still))
  here still (more unwell unchanged done) =
      let at : left ≡ next_host (host_after_run next operator items) operator x.stamp done.0 = done.2
      ∙ ap (λ (g : Host). next_host g operator x.stamp done.0) (sym (still ∙ unchanged)) in
      inr (inr record { place = 0; item = x; there = refl; unwell = unwell; done = (done.0, done.1, at) })

  from : IsWhole next operator items (IsLeftByMark h operator x.stamp x.bytes x.mark before) left → IsWhole h operator (x ∷ items) before left
  from (inl (by, still)) = here still (whole_item h operator x.stamp x.bytes x.mark before left by)
  from (inr (inl is)) = inr (inl is)
  from (inr (inr m)) = inr (inr record { place = suc m.place; item = m.item; there = m.there; unwell = m.unwell; done = m.done })

pub crash_leaves_whole : (h : Host) (operator : ℕ) (items : List Item) (before : Host → Type 0) → ((g : Host) → before g → g ≡ h) → (left : Host)
    → IsLeftByRun h operator items before left → IsLeftWhole h operator items left
crash_leaves_whole h operator items before alone left by = elim (whole_run h operator items before left by) [
  | inl s ↦ inl (alone left s.0 ∙ sym s.1)
  | inr whole ↦ whole
]
