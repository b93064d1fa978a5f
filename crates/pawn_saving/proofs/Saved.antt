-- A change is saved: a borrowed transaction that succeeds, and a commit.
use Rattle.one_table.proofs.Parts.{committed_rests, rests_open}
use Rattle.pawn_book.specs.Keeping.{GoesOn, IsFitting, IsLeftBy, OfHost, Saves}
use Rattle.pawn_saving.proofs.Basics.{clean_before}
use Rattle.pawn_saving.proofs.Hosting.{held}
use Rattle.pawn_saving.proofs.WithinLimit.{limit_after}
use Rattle.pawn_saving.specs.Common.{Database, CanSave, with_change, Change, SaveError}
use Rattle.pawn_saving.specs.Counted.{IsCounted, WritesChange}
use Rattle.pawn_tables.specs.Common.{HasCleanDisk, State, Trees, Host, rows, IsSound, IsLent}
use Rattle.pawn_tables.specs.Keeps.{HoldSound, IsWhole, Keeps, Leaves, keeping_by}
use Rattle.pawn_tables.specs.OneHost.{StandForOne}
use Rattle.pawn_tables.specs.StandsFor.{HoldHost, StandsFor}
use Rattle.sqlite.specs.Held.{Held, state as state_of}
use Rattle.sqlite.specs.State.{IsRolledBack, Shows, Survives}
use Rattle.sqlite.specs.Steps.{FailsToCommit}
use Rattle.sqlite.specs.declared.error.Error.{Error}
use Rattle.sqlite_trees.specs.declared.store.Store.{Ghosts}
use Rattle.std.proofs.Common.{◌≡◌, ◌≢◌, ◌⊎◌, inl, inr, ◌≤◌, ◌<◌, Bool, true, false, Result, Ok, Err, IsTrue, refl, sym}
use Rattle.std.proofs.Common.{ap, subst, ◌∙◌, arith}
use Rattle.pawn_book.specs.declared.fault.SaveError.TheVariants as Save

left_fitting : (T : Type 0) (h : Host) (change : Change) (before : Host → Type 0) (e : SaveError) (left : Host) → e ≢ Save.Full
    → before left ⊎ IsFitting h change left → IsLeftBy {T = T} h change before (Err e) left
left_fitting T h change before Save.Full left other was = absurd (other refl)
left_fitting T h change before Save.Memory left other was = was
left_fitting T h change before (Save.Store fault) left other was = was

-- where the other can't be
pub no_more : {P : Type 0} → P ⊎ ⊥ → P
no_more (inl p) = p
no_more (inr none) = absurd none

-- what was saved into a connection that is given back
pub given_back : {K : Type 0} (state : K → State) (T : Type 0) (old there : K) (change : Change) (result : Result T SaveError)
    → Saves {T = T} (keeping_by state) old there change result → (new : K) → there ≡ new → Saves {T = T} (keeping_by state) old new change result
given_back state T old there change result saved new same = subst (λ n. Saves {T = T} (keeping_by state) old n change result) same saved

-- a transaction that begins
pub record IsBegun (a begun : State) : Type 0 where
  pub ended : a.in_transaction ≡ false
  pub settled : IsTrue a.is_open → a.now ≡ a.committed
  pub was_open : IsTrue begun.is_open → IsTrue a.is_open
  pub now : begun.now ≡ a.now
  pub committed : begun.committed ≡ a.committed
  pub within : IsTrue begun.in_transaction
  pub clean : HasCleanDisk begun → HasCleanDisk a
  pub left : (trees : _) → begun.may_leave trees → a.may_leave trees

pub begins : {S : Type 0} (g : Ghosts S) (old begun : Held S) → begun ≡ record old { in_transaction = true } → old.in_transaction ≡ false
    → (IsTrue (state_of g old).is_open → (state_of g old).now ≡ (state_of g old).committed) → IsBegun (state_of g old) (state_of g begun)
begins g old begun is ended settled = subst (λ b. IsBegun (state_of g old) (state_of g b)) (sym is) (record
    { ended = ended; settled = settled; was_open = λ now. now; now = refl; committed = refl; within = refl; clean = λ clean. clean; left = λ trees left. left })

module _ {K : Type 0} (state : K → State) (old new : K) (begun lent : State) (change : Change) (was : IsBegun (state old) begun)
    (can : IsTrue (state old).is_open → OfHost (keeping_by state) old old (λ h. CanSave h change)) where
  may : HasCleanDisk begun → (h : Host) → IsSound h → Keeps (state old) h → IsTrue begun.is_open → CanSave h change × StandsFor begun.now h
  may clean h sound k now = (can (was.was_open now) (was.clean clean) h sound k, subst (λ d. StandsFor d h) (sym was.now) (k.stands (was.was_open now)))

  -- what a borrowed transaction leaves that is rolled back
  module _ (ok : Bool) (part : IsLent begun lent ok) (past : HasCleanDisk (state new) → HasCleanDisk lent)
      (rolled : HasCleanDisk (state new) → IsRolledBack lent (state new)) (ended : HasCleanDisk (state new) → (state new).in_transaction ≡ false) where
    back_opened : HasCleanDisk (state new) → IsTrue (state new).is_open → IsTrue (state old).is_open
    back_opened clean now = rests_open (state old) begun lent (state new) was.was_open was.committed (part.kept (past clean) was.within) (rolled clean) now

    keeps_back : HasCleanDisk (state new) → (h : Host) → Keeps (state old) h → Keeps (state new) h
    keeps_back clean h k = record {
      autocommit = ended clean;
      committed = λ now. ((rolled clean).undone now).0 ∙ sym ((rolled clean).undone now).1;
      stands = λ now. subst (λ d. StandsFor d h) (sym (as_it_was now)) (k.stands (back_opened clean now));
    } where
      as_it_was : IsTrue (state new).is_open → (state new).now ≡ (state old).now
      as_it_was now = let u = rolled clean in
          (u.undone now).0 ∙ sym (u.undone now).1 ∙ committed_rests (state old) begun lent (state new) was.was_open was.committed
          (part.kept (past clean) was.within) u now ∙ sym (was.settled (back_opened clean now))

  clean_past : {P : Trees → Type 0} → Survives lent (state new) P → HasCleanDisk (state new) → HasCleanDisk lent
  clean_past after clean = let up = after.clean in omega (arith, clean, up)

  module _ (T : Type 0) (done : T) (one : StandForOne) (part : IsLent begun lent true) (wrote : WritesChange {T = T} begun lent change (Ok done))
      (ended : (state new).in_transaction ≡ false) (after : Survives lent (state new) (λ db. db ≡ lent.now.trees)) where
    clean_first : HasCleanDisk (state new) → HasCleanDisk begun
    clean_first clean = clean_before begun lent true part (clean_past after clean)

    was_served : HasCleanDisk (state new) → IsTrue (state old).is_open
    was_served clean = was.was_open (part.opened (clean_past after clean) was.within refl)

    written : HasCleanDisk (state new) → (h : Host) → IsSound h → Keeps (state old) h
        → StandsFor lent.now (with_change h change) × (rows (with_change h change) ≤ h.limit)
    written clean h sound k = wrote (clean_past after clean) was.within h sound (may (clean_first clean) h sound k)

    on_past : (HasCleanDisk (state new) → IsWhole (state old) → IsWhole (state new)) → GoesOn (keeping_by state) old new
    on_past whole =
        record { was_honest = λ clean. was.clean (clean_first clean); was_usable = λ clean now. was_served clean; stays = λ steady. steady; whole = whole }

    -- the changed host is sound
    changed_sound : HasCleanDisk (state new) → (h : Host) → IsSound h → Keeps (state old) h → IsSound (with_change h change)
    changed_sound clean h sound k = record {
      books = (can (was_served clean) (was.clean (clean_first clean)) h sound k).sound;
      fits = let few = (written clean h sound k).1 in let same = limit_after h change in omega (arith, few, same);
    }

    -- trees that are those of what was written hold it
    written_held : HasCleanDisk (state new) → (h : Host) → IsSound h → Keeps (state old) h → (trees : Trees) → trees ≡ lent.now.trees → HoldSound trees
    written_held clean h sound k trees made = (
      with_change h change,
      changed_sound clean h sound k,
      subst (λ ts. HoldHost ts (with_change h change)) (sym made) (held lent.now (with_change h change) (written clean h sound k).0),
    )

    -- trees that stand for a host and are those of a database of these tables that stands for another
    one_left : (db : Database) (left g : Host) (trees : Trees) → trees ≡ db.trees → HoldHost trees left → StandsFor db g → left ≡ g
    one_left db left g trees same l st = one _ left g (subst (λ ts. HoldHost ts left) same l) (held db g st)

    pub saves_committed : (HasCleanDisk (state new) → Shows lent (state new) lent.now lent.now false) → (IsTrue (state new).is_open → (trees : Trees)
        → (state new).may_leave trees → trees ≡ (state new).committed.trees) → Saves {T = T} (keeping_by state) old new change (Ok done)
    saves_committed shows settled = record {
      on = on_past (λ clean w. record {
        host = with_change w.host change;
        sound = changed_sound clean w.host w.sound w.keeps;
        keeps = keeps_changed clean w.host w.sound w.keeps;
        crash = λ trees left. written_held clean w.host w.sound w.keeps trees (made clean trees left);
      });
      ok = λ clean h sound k. (keeps_changed clean h sound k, (written clean h sound k).1);
      full = λ same. absurd (let e = same in cc);
      err = tt;
      crash = λ clean h sound k left l. one_left lent.now left (with_change h change) l.trees (made clean l.trees l.left) l.stands (written clean h sound k).0;
      never = λ steady. absurd steady;
    } where
      keeps_changed : HasCleanDisk (state new) → (h : Host) → IsSound h → Keeps (state old) h → Keeps (state new) (with_change h change)
      keeps_changed clean h sound k = record {
        autocommit = ended;
        committed = λ now. (shows clean).now_is ∙ sym (shows clean).committed_is;
        stands = λ now. subst (λ d. StandsFor d (with_change h change)) (sym (shows clean).now_is) (written clean h sound k).0;
      }

      made : HasCleanDisk (state new) → (trees : Trees) → (state new).may_leave trees → trees ≡ lent.now.trees
      made clean trees left = settled (shows clean).is_open trees left ∙ ap (λ (d : Database). d.trees) (shows clean).committed_is

    -- the commit fails
    module _ (e : SaveError) (other : e ≢ Save.Full) (error : Error) (failed : HasCleanDisk (state new) → FailsToCommit lent (state new) error) where
      rolled : HasCleanDisk (state new) → IsRolledBack lent (state new)
      rolled clean = go (failed clean) where
        go : FailsToCommit lent (state new) error → IsRolledBack lent (state new)
        go (inl f) = f.3
        go (inr f) = absurd (let yes' = part.inside (clean_past after clean) was.within refl in let no' = f.1 in cc)

      back : HasCleanDisk (state new) → (h : Host) → Keeps (state old) h → Keeps (state new) h
      back = keeps_back true part (clean_past after) rolled (λ clean. ended)

      pub saves_refused : Saves {T = T} (keeping_by state) old new change (Err e)
      saves_refused = record {
        on = on_past (λ clean w. record {
          host = w.host;
          sound = w.sound;
          keeps = back clean w.host w.keeps;
          crash = λ trees left. whole clean w trees (after.crash clean trees left);
        });
        ok = tt;
        full = λ same. absurd (other (let s = same in cc));
        err = λ clean h sound k. back clean h k;
        crash =
            λ clean h sound k left l. left_fitting T h change (Leaves (state old)) e left other (go clean h sound k left l (after.crash clean l.trees l.left));
        never = λ steady. absurd steady;
      } where
        whole : HasCleanDisk (state new) → (w : IsWhole (state old)) → (trees : Trees) → lent.may_leave trees ⊎ (trees ≡ lent.now.trees) → HoldSound trees
        whole clean w trees (inl before) = w.crash trees (was.left trees (no_more (part.survives.crash (clean_past after clean) trees before)))
        whole clean w trees (inr made) = written_held clean w.host w.sound w.keeps trees made

        go : HasCleanDisk (state new) → (h : Host) → IsSound h → Keeps (state old) h → (left : Host) (l : Leaves (state new) left)
            → lent.may_leave l.trees ⊎ (l.trees ≡ lent.now.trees) → Leaves (state old) left ⊎ IsFitting h change left
        go clean h sound k left l (inl before) =
            inl (record { trees = l.trees; left = was.left l.trees (no_more (part.survives.crash (clean_past after clean) l.trees before)); stands = l.stands })
        go clean h sound k left l (inr made) = let w = written clean h sound k in
            inr (one_left lent.now left (with_change h change) l.trees made l.stands w.0, w.1)

  -- what was written is rolled back
  module _ (T : Type 0) (e : SaveError) (part : IsLent begun lent false) (wrote : WritesChange {T = T} begun lent change (Err e))
      (undone : HasCleanDisk (state new) → IsRolledBack lent (state new)) (after : Survives lent (state new) (λ _. ⊥)) where
    clean_begun : HasCleanDisk (state new) → HasCleanDisk begun
    clean_begun clean = clean_before begun lent false part (clean_past after clean)

    same : HasCleanDisk (state new) → (h : Host) → Keeps (state old) h → Keeps (state new) h
    same = keeps_back false part (clean_past after) undone (λ clean. (undone clean).autocommit)

    left_before : HasCleanDisk (state new) → (trees : Trees) → (state new).may_leave trees → (state old).may_leave trees
    left_before clean trees left = was.left trees (no_more (part.survives.crash (clean_past after clean) trees (no_more (after.crash clean trees left))))

    left_as : (h : Host) (left : Host) (x : SaveError) → Leaves (state old) left → IsLeftBy {T = T} h change (Leaves (state old)) (Err x) left
    left_as h left Save.Full before = before
    left_as h left Save.Memory before = inl before
    left_as h left (Save.Store fault) before = inl before

    pub saves_undone : Saves {T = T} (keeping_by state) old new change (Err e)
    saves_undone = record {
      on = record {
        was_honest = λ clean. was.clean (clean_begun clean);
        was_usable = back_opened false part (clean_past after) undone (λ clean. (undone clean).autocommit);
        stays = λ steady. steady;
        whole = λ clean w.
            record { host = w.host; sound = w.sound; keeps = same clean w.host w.keeps; crash = λ trees left. w.crash trees (left_before clean trees left) };
      };
      ok = tt;
      full = λ full clean h sound k.
          let is : e ≡ Save.Full = (let s = full in cc) in
          subst (λ x. IsCounted {T = T} (Err x) (StandsFor lent.now (with_change h change) × (rows (with_change h change) ≤ h.limit))
          (h.limit < rows (with_change h change))) is (wrote (clean_past after clean) was.within h sound (may (clean_begun clean) h sound k));
      err = λ clean h sound k. same clean h k;
      crash = λ clean h sound k left l. left_as h left e (record { trees = l.trees; left = left_before clean l.trees l.left; stands = l.stands });
      never = λ steady. absurd steady;
    }
