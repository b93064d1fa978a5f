-- A call over tables, derived from the contract of the service.
use Rattle.pawn_book.specs.HostStep.{Host}
use Rattle.pawn_book.specs.Sound.{IsSound}
use Rattle.pawn_host.proofs.CrashLemmas.{crash_leaves_whole, host_after-append, left_by-append, run_wider}
use Rattle.pawn_host.proofs.HeadlineLemmas.{runs_answer_alone}
use Rattle.pawn_host.specs.Crashes.{IsLeftByRun}
use Rattle.pawn_host.specs.Keeps.{GoesBy, Kept, Start}
use Rattle.pawn_host.specs.Run.{IsMarked, Item, host_after_run}
use Rattle.pawn_host.specs.Session.{Given, IsSession}
use Rattle.pawn_host.specs.declared.session.Ended.{Ended}
use Rattle.pawn_host.specs.declared.session.IoFault.{IoFault}
use Rattle.pawn_opening.specs.FilesStand.{StandsIn}
use Rattle.pawn_opening.specs.Opened.{OpensAs}
use Rattle.pawn_pledge.specs.declared.command.Stamp.{Stamp}
use Rattle.pawn_store.specs.Running.{ActsOverTables, HasAnswered, HoldsSession, Reopens, acted_items, kept_in, start_at}
use Rattle.pawn_tables.proofs.OneHost.{tables_stand_for_one_host}
use Rattle.pawn_tables.specs.Keeps.{IsWhole, Keeps, Leaves}
use Rattle.sqlite.specs.State.{State}
use Rattle.sqlite_wal.specs.Recovery.{Image}
use Rattle.std.proofs.Common.{◌≡◌, ◌++◌, ℕ, List, [], refl, sym, subst, Result, Ok, Err, inl, All, Option}
use Rattle.std.proofs.lemmas.List.Elements.{All-append, All-nil}

-- over a store that was opened nothing was answered yet
pub nothing_answered : (store : State) (h : Host) (operator : ℕ) → IsSound h → OpensAs store h → HasAnswered store h operator []
nothing_answered store h operator sound opens = record {
  marked = All-nil (IsMarked ⊥);
  keeps = opens.keeps;
  sound = sound;
  crash = λ trees left. record { host = h; sound = sound; held = opens.crash trees left; exact = refl; whole = inl refl };
}

-- it is whole
pub answered_whole : (store : State) (h : Host) (operator : ℕ) (items : List Item) → HasAnswered store h operator items → IsWhole store
answered_whole store h operator items was = record {
  host = host_after_run h operator items;
  sound = was.sound;
  keeps = was.keeps;
  crash = λ trees left. let one = was.crash trees left in (one.host, one.sound, one.held);
}

-- and a crash leaves no other hosts than those
exact_before : (store : State) (h : Host) (operator : ℕ) (items : List Item) → HasAnswered store h operator items → (g : Host) → Leaves store g
    → IsLeftByRun h operator items (λ x. x ≡ h) g
exact_before store h operator items was g l =
    let one = was.crash l.trees l.left in
    subst (IsLeftByRun h operator items (λ x. x ≡ h)) (tables_stand_for_one_host _ one.host g one.held l.stands) one.exact

-- further items
pub acts_over_tables : (old new : State) (h : Host) (operator : ℕ) (before : List Item) (Did : Start → Kept → List Item → Type 0) (items : List Item)
    → HasAnswered old h operator before → (IsWhole old → IsWhole new) → All (IsMarked ⊥) items
    → GoesBy (start_at old (host_after_run h operator before) operator) items (kept_in new)
    → Did (start_at old (host_after_run h operator before) operator) (kept_in new) items → ActsOverTables old new h operator before Did
acts_over_tables old new h operator before Did items was whole marked goes did = record {
  items = items;
  did = did;
  alone = runs_answer_alone (host_after_run h operator before) operator items marked;
  answered = record {
    marked = All-append (IsMarked ⊥) before items was.marked marked;
    keeps = subst (Keeps new) (sym (host_after-append h operator before items)) goes.stands_for;
    sound = subst IsSound (sym (host_after-append h operator before items)) goes.sound;
    crash = λ trees left.
        let one = (whole (answered_whole old h operator before was)).crash trees left in
        let by = goes.crash one.0 (record { trees = trees; left = left; stands = one.2 }) in
        let wide = run_wider (host_after_run h operator before) operator items (Leaves old) (IsLeftByRun h operator before (λ x. x ≡ h))
        (exact_before old h operator before was) one.0 by in
        let exact = left_by-append h operator before items (λ x. x ≡ h) one.0 wide in
        record {
          host = one.0;
          sound = one.1;
          held = one.2;
          exact = exact;
          whole = crash_leaves_whole h operator (before ++ items) (λ x. x ≡ h) (λ g same. same) one.0 exact;
        };
  };
}

-- the items of a session
module _ {S : Type 0} (steps : S → Option Stamp → S → Type 0) where
  session_marked : (given : Given S) (stamps : S) (written : Option (List ℕ)) (result : Result Ended IoFault) (kept : Kept) (session : IsSession steps given
      stamps written result kept) → All (IsMarked given.start.Steady) (acted_items steps given stamps written result kept session)
  session_marked given stamps written (Ok ended) kept session = session.served.marked
  session_marked given stamps written (Err fault) kept session = session.served.marked

  session_goes : (given : Given S) (stamps : S) (written : Option (List ℕ)) (result : Result Ended IoFault) (kept : Kept)
      (session : IsSession steps given stamps written result kept) → GoesBy given.start (acted_items steps given stamps written result kept session) kept
  session_goes given stamps written (Ok ended) kept session = session.served.goes
  session_goes given stamps written (Err fault) kept session = session.served.goes

  -- a session over tables
  pub session_over_tables : (old new : State) (h : Host) (operator : ℕ) (before : List Item) (from : S) (stream wrote : Option (List ℕ)) (stamps : S)
      (written : Option (List ℕ)) (result : Result Ended IoFault) → HasAnswered old h operator before → (IsWhole old → IsWhole new)
      → IsSession steps (record { start = start_at old (host_after_run h operator before) operator; stamps = from; stream = stream; written = wrote }) stamps
      written result (kept_in new) → ActsOverTables old new h operator before (HoldsSession steps from stream wrote stamps written result)
  session_over_tables old new h operator before from stream wrote stamps written result was whole session =
      let given : Given S = record { start = start_at old (host_after_run h operator before) operator; stamps = from; stream = stream; written = wrote } in
      acts_over_tables old new h operator before (HoldsSession steps from stream wrote stamps written result)
      (acted_items steps given stamps written result (kept_in new) session) was whole
      (session_marked given stamps written result (kept_in new) session) (session_goes given stamps written result (kept_in new) session) (session, refl)

-- files that are opened again after a crash
pub reopens : (image : Image) (store : State) → ((h : Host) → StandsIn image h → OpensAs store h) → Reopens image store
reopens image store opens h operator items trees holds one = (
  one.host,
  one.whole,
  λ key. nothing_answered store one.host key one.sound (opens one.host (record { trees = trees; held = holds; stands = one.held })),
)
