-- A read of a keeper: a borrowed transaction, which is rolled back.
use Rattle.one_table.proofs.Lent.{clean_before}
use Rattle.one_table.proofs.Parts.{rests_open, committed_rests}
use Rattle.one_table.specs.Lending.{IsLent, Lends, Rests}
use Rattle.pawn_saving.proofs.Saved.{no_more}
use Rattle.pawn_table_keeper.specs.Common.{Held, state, HasCleanDisk, State, Host, Errs, Reads, KeepError, NoRecord}
use Rattle.pawn_table_keeper.specs.Common.{StandsFor, IsUnsoundAt}
use Rattle.pawn_table_keeper.specs.Handing.{keeping_of, ReadsOfBook}
use Rattle.pawn_table_keeper.specs.declared.keeper.TableKeep.{TableKeep}
use Rattle.pawn_tables.specs.Finding.{Finds, FindsBy, FindsIn}
use Rattle.pawn_tables.specs.Keeps.{IsWhole, Keeps, keeping_by}
use Rattle.sqlite.specs.State.{IsRolledBack, KeepsCommit, Survives}
use Rattle.sqlite_trees.specs.declared.store.Store.{Ghosts}
use Rattle.std.proofs.Common.{◌≡◌, true, false, Result, Ok, Err, IsTrue, refl, sym, subst, ◌∙◌, arith, IfOk, is_ok, ℕ}
use Rattle.std.specs.Borrow.{MutBor}
use Rattle.pawn_book.specs.declared.fault.KeepError.TheVariants as Keeper

-- what was found, alone
found : {A : Type 0} (r : Result A KeepError) (Q : A → Type 0) (R U : Type 0) → Finds r (λ x. Q x × R) U → IfOk r Q
found (Ok x) Q R U f = f.0
found (Err e) Q R U f = tt

-- why it was not
unfound : {A : Type 0} (r : Result A KeepError) (P : A → Type 0) (U : Type 0) → r ≡ Err (Keeper.Store NoRecord) → Finds r P U → U
unfound r P U is f = subst (λ x. Finds x P U) is f

-- what was found on a condition that holds
pub known_then : {A E : Type 0} (r : Result A E) (K : Type 0) (x y : A) → IfOk r (λ v. K → v ≡ x) → K → x ≡ y → IfOk r (λ v. v ≡ y)
known_then (Ok v) K x y found known same = found known ∙ same
known_then (Err e) K x y found known same = tt

-- the state of a transaction that begins
abbrev pub begun_of : State → State
begun_of s = record s { in_transaction = true }

-- what was found in a borrowed transaction that was rolled back, and what the transaction leaves
pub record IsRead {A : Type 0} (IsUnsound : Host → Type 0) (a lent new : State) (r : Result A KeepError) (P : Host → A → Type 0) : Type 0 where
  pub ended : a.in_transaction ≡ false
  pub settled : a.in_transaction ≡ false → IsTrue a.is_open → a.now ≡ a.committed
  pub part : IsLent (begun_of a) lent (is_ok r)
  pub undone : HasCleanDisk new → IsRolledBack lent new
  pub after : Survives lent new (λ _. ⊥)
  pub finds : FindsIn IsUnsound (begun_of a) lent r P

pub was_read : {A : Type 0} {IsUnsound : Host → Type 0} {lent new : State} {P : Host → A → Type 0} (a : State) (r : Result A KeepError)
    → a.in_transaction ≡ false → (a.in_transaction ≡ false → IsTrue a.is_open → a.now ≡ a.committed) → IsLent (begun_of a) lent (is_ok r)
    → (HasCleanDisk new → IsRolledBack lent new) → Survives lent new (λ _. ⊥) → FindsIn IsUnsound (begun_of a) lent r P → IsRead IsUnsound a lent new r P
was_read a r ended settled part undone after finds = record { ended = ended; settled = settled; part = part; undone = undone; after = after; finds = finds }

module _ {K : Type 0} (state_of : K → State) (old new : K) {A : Type 0} {IsUnsound : Host → Type 0} {lent : State} {r : Result A KeepError}
    {P : Host → A → Type 0} (was : IsRead IsUnsound (state_of old) lent (state_of new) r P) where
  clean_lent : HasCleanDisk (state_of new) → HasCleanDisk lent
  clean_lent clean = let up = was.after.clean in omega (arith, clean, up)

  clean_old : HasCleanDisk (state_of new) → HasCleanDisk (state_of old)
  clean_old clean = clean_before (begun_of (state_of old)) lent (is_ok r) was.part (clean_lent clean)

  commit_kept : HasCleanDisk (state_of new) → KeepsCommit (begun_of (state_of old)) lent
  commit_kept clean = was.part.kept (clean_lent clean) refl

  opened : HasCleanDisk (state_of new) → IsTrue (state_of new).is_open → IsTrue (state_of old).is_open
  opened clean now = rests_open (state_of old) (begun_of (state_of old)) lent (state_of new) (λ now'. now') refl (commit_kept clean) (was.undone clean) now

  as_it_was : HasCleanDisk (state_of new) → IsTrue (state_of new).is_open → (state_of new).now ≡ (state_of old).now
  as_it_was clean now = let undone = was.undone clean in
      (undone.undone now).0 ∙ sym (undone.undone now).1 ∙ committed_rests (state_of old) (begun_of (state_of old)) lent (state_of new) (λ now'. now') refl
      (commit_kept clean) undone now ∙ sym (was.settled was.ended (opened clean now))

  kept : HasCleanDisk (state_of new) → (h : Host) → Keeps (state_of old) h → Keeps (state_of new) h
  kept clean h k = record {
    autocommit = (was.undone clean).autocommit;
    committed = λ now. ((was.undone clean).undone now).0 ∙ sym ((was.undone clean).undone now).1;
    stands = λ now. subst (λ d. StandsFor d h) (sym (as_it_was clean now)) (k.stands (opened clean now));
  }

  left_before : HasCleanDisk (state_of new) → (trees : _) → (state_of new).may_leave trees → (state_of old).may_leave trees
  left_before clean trees left = no_more (was.part.survives.crash (clean_lent clean) trees (no_more (was.after.crash clean trees left)))

  whole : HasCleanDisk (state_of new) → IsWhole (state_of old) → IsWhole (state_of new)
  whole clean w =
      record { host = w.host; sound = w.sound; keeps = kept clean w.host w.keeps; crash = λ trees left. w.crash trees (left_before clean trees left) }

  pub read_by : Reads (keeping_by state_of) old new (λ h. IfOk r (P h))
  read_by = record {
    on = record { was_honest = clean_old; was_usable = opened; stays = λ steady. steady; whole = whole };
    same = kept;
    back = λ clean now h k. record {
      autocommit = was.ended;
      committed = was.settled was.ended;
      stands = λ before. subst (λ d. StandsFor d h) (as_it_was clean now) (k.stands now);
    };
    states = λ clean h k. found r (P h) (Rests (begun_of (state_of old)) lent) (IsUnsound h) (was.finds (clean_lent clean) refl h k.stands);
    crash = λ clean left l. record { trees = l.trees; left = left_before clean l.trees l.left; stands = l.stands };
  }

  pub errs_by : Errs (keeping_by state_of) old new IsUnsound r
  errs_by = record {
    never = λ steady. absurd steady;
    no_record = λ is clean h k. unfound r (λ x. P h x × Rests (begun_of (state_of old)) lent) (IsUnsound h) is (was.finds (clean_lent clean) refl h k.stands);
  }

-- a keeper's read, by what a read in a borrowed transaction answers, which is then rolled back
pub read_in : {S K A : Type 0} (g : Ghosts S) (conn : K → Held S) (old new : K) {tx lent : MutBor (Held S)} {IsUnsound : Host → Type 0} (P : Host → A → Type 0)
    (r : Result A KeepError) → (conn old).in_transaction ≡ false
    → ((conn old).in_transaction ≡ false → IsTrue (state g (conn old)).is_open → (state g (conn old)).now ≡ (state g (conn old)).committed)
    → tx.now ≡ record (conn old) { in_transaction = true } → Lends g tx lent (is_ok r) → FindsBy g tx lent IsUnsound r P → (HasCleanDisk (state g (conn new))
    → IsRolledBack (state g lent.now) (state g (conn new))) → Survives (state g lent.now) (state g (conn new)) (λ _. ⊥) → record
    { reads : Reads (keeping_by (λ k. state g (conn k))) old new (λ h. IfOk r (P h)); errs : Errs (keeping_by (λ k. state g (conn k))) old new IsUnsound r }
read_in {S} g conn old new {tx} {lent} {IsUnsound} P r ended settled begun lends finds undone after =
    let was = was_read (state g (conn old)) r ended settled (subst (λ (h : Held S). IsLent (state g h) (state g lent.now) (is_ok r)) begun lends.leaves) undone
    after (subst (λ (h : Held S). FindsIn IsUnsound (state g h) (state g lent.now) r P) begun finds) in
    record { reads = read_by (λ k. state g (conn k)) old new was; errs = errs_by (λ k. state g (conn k)) old new was }

-- .. of one book
pub told : {S A : Type 0} {g : Ghosts S} {old new : TableKeep S g} {book : ℕ} {r : Result A KeepError} {P : Host → A → Type 0}
    → record { reads : Reads (keeping_of g) old new (λ h. IfOk r (P h)); errs : Errs (keeping_of g) old new (IsUnsoundAt book) r }
    → record { states : ReadsOfBook g old new book r P }
told it = record { states = record { reads = it.reads; errs = it.errs } }
