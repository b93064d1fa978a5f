-- A store that is asked whether it is shut.
use Rattle.pawn_saving.proofs.Saved.{no_more}
use Rattle.pawn_table_keeper.specs.Common.{HasCleanDisk, State, Host, Reads, StandsFor}
use Rattle.pawn_tables.specs.Keeps.{Keeps, keeping_by}
use Rattle.sqlite.specs.State.{HasCause, IsNoStatement, IsNotRun, IsRolledBack, IsUnchanged, Survives, store_error}
use Rattle.sqlite.specs.declared.error.Error.{Error}
use Rattle.sqlite.specs.declared.error.Error.TheVariants.{SqliteFailure}
use Rattle.sqlite.specs.declared.error.ErrorCode.TheVariants.{Closed}
use Rattle.sqlite_trees.proofs.Doubt.{no_doubt}
use Rattle.sqlite_trees.specs.declared.error.StoreError.{StoreError}
use Rattle.sqlite_trees.specs.declared.error.StoreError.TheVariants.{OutOfMemory, Io, Corrupt, Full, Broken, Unstorable}
use Rattle.sqlite_value.specs.Order.{Row}
use Rattle.std.proofs.Common.{◌≡◌, ◌⊎◌, inl, inr, ℕ, Bool, true, false, IsTrue, List, [], Result, Ok, Err, IfOk, IfErr}
use Rattle.std.proofs.Common.{refl, sym, subst, ◌∙◌, arith}
use Rattle.std.proofs.lemmas.Bool.{true_from_ne_false}

-- ---- it keeps what it kept

-- what an answer leaves: the store as it was, or rolled back
abbrev pub IsLeft : State → State → Type 0
IsLeft old new = IsUnchanged old new ⊎ IsRolledBack old new

pub left_unrun : (old new : State) (sql : _) (params : Row) (e : Error) → IsNotRun old new sql params e → IsLeft old new
unfolding IsNotRun
left_unrun old new sql params e (inl unread) = inl unread.1
left_unrun old new sql params e (inr failed) = inr failed.3

-- of whatever is answered
pub left_by : {T : Type 0} (old new : State) (sql : List ℕ) (result : Result T Error) (U : T → Type 0) → (HasCleanDisk new → IfOk result (λ s. U s
    × IsUnchanged old new)) → (HasCleanDisk new → IfErr result (λ e. (params : Row) → IsNotRun old new sql params e)) → HasCleanDisk new → IsLeft old new
left_by old new sql (Ok s) U ok err clean = inl (ok clean).1
left_by old new sql (Err e) U ok err clean = left_unrun old new sql [] e (err clean [])

still : (old new : State) → (IsTrue old.is_open → old.now ≡ old.committed) → IsLeft old new → IsTrue new.is_open
    → IsTrue old.is_open × (new.now ≡ old.now) × (new.now ≡ new.committed)
still old new settled (inl same) serves = (same.0.was_open, same.0.now_is, same.0.now_is ∙ settled same.0.was_open ∙ sym same.0.committed_is)
still old new settled (inr undone) serves =
    (undone.was_open serves, (undone.undone serves).0 ∙ sym (settled (undone.was_open serves)), (undone.undone serves).0 ∙ sym (undone.undone serves).1)

module _ {K : Type 0} (state : K → State) (old new : K) (rested : (state old).in_transaction ≡ false)
    (settled : IsTrue (state old).is_open → (state old).now ≡ (state old).committed)
    (rests : (state new).in_transaction ≡ false) (left : HasCleanDisk (state new) → IsLeft (state old) (state new))
    (after : Survives (state old) (state new) (λ _. ⊥)) where
  was_clean : HasCleanDisk (state new) → HasCleanDisk (state old)
  was_clean clean = let up = after.clean in omega (arith, clean, up)

  as_it_was : HasCleanDisk (state new) → IsTrue (state new).is_open
      → IsTrue (state old).is_open × ((state new).now ≡ (state old).now) × ((state new).now ≡ (state new).committed)
  as_it_was clean serves = still (state old) (state new) settled (left clean) serves

  kept : HasCleanDisk (state new) → (h : Host) → Keeps (state old) h → Keeps (state new) h
  kept clean h k = record {
    autocommit = rests;
    committed = λ serves. (as_it_was clean serves).2;
    stands = λ serves. subst (λ d. StandsFor d h) (sym (as_it_was clean serves).1) (k.stands (as_it_was clean serves).0);
  }

  left_before : HasCleanDisk (state new) → (trees : _) → (state new).may_leave trees → (state old).may_leave trees
  left_before clean trees l = no_more (after.crash clean trees l)

  pub asked : Reads (keeping_by state) old new (λ h. Unit {0})
  asked = record {
    on = record {
      was_honest = was_clean;
      was_usable = λ clean serves. (as_it_was clean serves).0;
      stays = λ steady. steady;
      whole =
          λ clean w. record { host = w.host; sound = w.sound; keeps = kept clean w.host w.keeps; crash = λ trees l. w.crash trees (left_before clean trees l) };
    };
    same = kept;
    back = λ clean serves h k. record {
      autocommit = rested;
      committed = settled;
      stands = λ before. subst (λ d. StandsFor d h) (as_it_was clean serves).1 (k.stands serves);
    };
    states = λ clean h k. tt;
    crash = λ clean h l. record { trees = l.trees; left = left_before clean l.trees l.left; stands = l.stands };
  }

-- ---- it is said to be shut only if it is

no_fault : (cause : StoreError) → SqliteFailure Closed ≡ store_error cause → cause ≡ Broken
no_fault OutOfMemory is = absurd cc
no_fault Io is = absurd cc
no_fault Corrupt is = absurd cc
no_fault Full is = absurd cc
no_fault Broken is = refl
no_fault Unstorable is = absurd cc

no_statement : (old : State) (sql : _) (params : Row) → IsNoStatement old sql params (SqliteFailure Closed) → ⊥
no_statement old sql params (inl unread) = let e = unread.2 in cc
no_statement old sql params (inr (c, is, inl more)) = let e = more.1 in cc
no_statement old sql params (inr (c, is, inr (inl given))) = let e = given.1 in cc
no_statement old sql params (inr (c, is, inr (inr clock))) = let e = clock.1 in cc

unserved : (old new : State) (sql : _) (params : Row) → IsNotRun old new sql params (SqliteFailure Closed) → IsTrue new.is_open → ⊥
unfolding IsNotRun
unserved old new sql params (inl unread) serves = no_statement old sql params unread.0
unserved old new sql params (inr failed) serves = let shut : HasCause old new ⊥ Broken = subst (HasCause old new ⊥) (no_fault failed.0 failed.1) failed.2 in
    let was = failed.3.was_open serves in
    cc

pub told_shut : {T : Type 0} (old new : State) (sql : List ℕ) (result : Result T Error) → (new.is_clean ≡ false → new.is_open ≡ false)
    → result ≡ Err (SqliteFailure Closed) → (HasCleanDisk new → IfErr result (λ e. (params : Row) → IsNotRun old new sql params e)) → new.is_open ≡ false
told_shut {T} old new sql result dirty is err = at new.is_open refl where
  unrun : HasCleanDisk new → (params : Row) → IsNotRun old new sql params (SqliteFailure Closed)
  unrun clean = subst (λ (r : Result T Error). IfErr r (λ e. (params : Row) → IsNotRun old new sql params e)) is (err clean)

  at : (b : Bool) → new.is_open ≡ b → new.is_open ≡ false
  at false is = is
  at true is = absurd (unserved old new sql [] (unrun (no_doubt new.is_clean (true_from_ne_false new.is_clean (λ spoilt. let e = dirty spoilt in cc))) []) is)
