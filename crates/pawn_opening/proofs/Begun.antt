-- A transaction that begins, and what is left once it is rolled back.
use Rattle.one_table.proofs.Parts.{rests_open, committed_rests}
use Rattle.pawn_opening.specs.Common.{Database, Error, Held, state, HasCleanDisk, State, Trees, Host, IsLent}
use Rattle.pawn_opening.specs.Common.{StandForOne, HoldHost, StandsFor}
use Rattle.pawn_opening.specs.Opened.{IsAsBefore, OpensAs}
use Rattle.sqlite.specs.State.{IsLive, IsRolledBack, Survives}
use Rattle.sqlite.specs.Steps.{FailsToCommit}
use Rattle.sqlite_trees.specs.declared.store.Store.{Ghosts}
use Rattle.std.proofs.Common.{◌≡◌, inl, inr, true, false, Bool, IsTrue, refl, sym, ap, subst, ◌∙◌, arith}

-- of a live store at rest
pub record IsBegun (a begun : State) : Type 0 where
  pub ended : a.in_transaction ≡ false
  pub settled : IsTrue a.is_open → a.now ≡ a.committed
  pub live : IsLive a
  pub was_open : IsTrue begun.is_open → IsTrue a.is_open
  pub now : begun.now ≡ a.now
  pub committed : begun.committed ≡ a.committed
  pub within : IsTrue begun.in_transaction
  pub survives : Survives a begun (λ _. ⊥)

pub is_begun : {S : Type 0} (g : Ghosts S) (old new : Held S) → new ≡ record old { in_transaction = true } → (state g old).in_transaction ≡ false
    → (IsTrue (state g old).is_open → (state g old).now ≡ (state g old).committed) → IsLive (state g old) → IsBegun (state g old) (state g new)
is_begun g old new begun ended settled live = subst (λ x. IsBegun (state g old) (state g x)) (sym begun) (record {
  ended = ended;
  settled = settled;
  live = live;
  was_open = λ now. now;
  now = refl;
  committed = refl;
  within = refl;
  survives = record { clean = omega arith; shield = λ h. h; counts = omega arith; limit = refl; closes = λ clean now. inl now; crash = λ clean db x. inl x };
})

pub rolled_back : (old begun lent new : State) (ok : Bool) → IsBegun old begun → IsLent begun lent ok → HasCleanDisk lent → IsRolledBack lent new
    → IsAsBefore old new
rolled_back old begun lent new ok was part clean undone = let kept = part.kept clean was.within in
    let opened = rests_open old begun lent new was.was_open was.committed kept undone in
    let committed' = committed_rests old begun lent new was.was_open was.committed kept undone in
    record {
      was_open = opened;
      now = λ now. (undone.undone now).0 ∙ sym (undone.undone now).1 ∙ committed' now ∙ sym (was.settled (opened now));
      committed = committed';
    }

-- a commit that failed is rolled back
pub uncommitted : (old begun lent new : State) → IsBegun old begun → IsLent begun lent true → (error : Error) → HasCleanDisk lent → FailsToCommit lent new error
    → IsRolledBack lent new
uncommitted old begun lent new was part error clean (inl failed) = failed.3
uncommitted old begun lent new was part error clean (inr ended) = absurd (let inside = part.inside clean was.within refl in let outside = ended.1 in cc)

pub held : (db : Database) (h : Host) → StandsFor db h → HoldHost db.trees h
held db h st = (db.schema, st)

-- an open store at rest whose tables stand for a host
pub opens_as : (s : State) (h : Host) → StandForOne → IsTrue s.is_open → s.in_transaction ≡ false → s.now ≡ s.committed
    → ((trees : Trees) → s.may_leave trees → trees ≡ s.committed.trees) → StandsFor s.now h → OpensAs s h
opens_as s h one usable ended settled left st =
    let crash : (trees : Trees) → s.may_leave trees
    → HoldHost trees h = λ trees may. subst (λ ts. HoldHost ts h) (sym (left trees may ∙ ap (λ (d : Database). d.trees) (sym settled))) (held s.now h st) in
    record {
      usable = usable;
      keeps = record { autocommit = ended; committed = λ now. settled; stands = λ now. st };
      crash = crash;
      alone = λ g l. one _ g h l.stands (crash l.trees l.left);
    }

-- what an open store for a host has committed stands for it
pub stands_committed : {s : State} {h : Host} → OpensAs s h → StandsFor s.committed h
stands_committed {s} {h} it = subst (λ d. StandsFor d h) (it.keeps.committed it.usable) (it.keeps.stands it.usable)
