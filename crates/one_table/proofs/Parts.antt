-- What the parts of a transaction leave of the last commit.
use Rattle.one_table.specs.Common.{Row}
use Rattle.one_table.specs.Lending.{Rests}
use Rattle.sqlite.proofs.Callers.{IsPlain}
use Rattle.sqlite.specs.Clock.{timed}
use Rattle.sqlite.specs.Listing.{understood}
use Rattle.sqlite.specs.State.{ExecutesInside, Fails, FailsToQuery, FailsToShow, IsNotRun, IsRolledBack, IsTooLate}
use Rattle.sqlite.specs.State.{KeepsCommit, QueriesRow, QueriesRowInside, Shown, Shows, ShowsRows, State, Writes}
use Rattle.sqlite.specs.declared.error.Error.{Error}
use Rattle.std.proofs.Common.{◌≡◌, ◌⊎◌, inl, inr, ℕ, List, [], Some, None, Result, Ok, Err, OnOk, IsTrue, subst, ◌∙◌}
use Rattle.std.proofs.Common.{if◌then◌else◌}

by_shows : (old new : State) (now : _) (mode : _) → Shows old new now old.committed mode → KeepsCommit old new
by_shows old new now mode s = record { was_open = λ _. s.was_open; committed = λ _. s.committed_is }

by_rollback : (old new : State) → IsRolledBack old new → KeepsCommit old new
by_rollback old new r = record { was_open = r.was_open; committed = λ open'. (r.undone open').1 }

pub kept_inside : (sql : List ℕ) (params : Row) (old new : State) (r : Result ℕ Error) → ExecutesInside 0 sql params old new r → KeepsCommit old new
kept_inside sql params old new (Ok count) h = by_shows old new _ _ h.1
kept_inside sql params old new (Err e) (inl h) = elim h.1 [ inl same ↦ by_shows old new _ _ same.0 | inr undone ↦ by_rollback old new undone ]
kept_inside sql params old new (Err e) (inr h) = by_shows old new _ _ h.2.0

by_failing : (old new : State) (P : Type 0) (e : Error) → Fails old new P e → KeepsCommit old new
by_failing old new P e f = by_rollback old new f.3

write_kept : (old new : State) (returning : _) (command : _) (text : List ℕ) (params : Row) (count : ℕ) → IsTrue old.in_transaction
    → Writes old new returning command text params count → KeepsCommit old new × IsTrue new.in_transaction
write_kept old new returning command text params count inside w =
    let s = subst (λ b. Shows old new new.now (if b then old.committed else new.now) b) inside w.shown in (by_shows old new _ _ s, s.mode)

pub shown_kept : (sql : List ℕ) (params : Row) (old new : State) (rows : List Row) → IsTrue old.in_transaction → Shown sql params old new rows
    → KeepsCommit old new × IsTrue new.in_transaction
unfolding Shown
shown_kept sql params old new rows inside h = go h.0.returning h.2 where
  go : (what : _) → ShowsRows old new sql h.0 (timed params h.0.formats h.1.now) rows what → KeepsCommit old new × IsTrue new.in_transaction
  go None it = (by_shows old new _ _ it.3.0, it.3.0.mode ∙ inside)
  go (Some what) it = write_kept old new _ _ _ _ _ inside it.1

pub failed_kept : (sql : List ℕ) (params : Row) (old new : State) (e : Error) → FailsToQuery sql params old new e → KeepsCommit old new
unfolding FailsToQuery IsNotRun
failed_kept sql params old new e (inl (inl h)) = by_shows old new _ _ h.1.0
failed_kept sql params old new e (inl (inr h)) = by_failing old new _ e h
failed_kept sql params old new e (inr h) = go h.0.returning h.2 where
  go : (what : _) → FailsToShow old new sql h.0 (timed params h.0.formats h.1.now) e what → KeepsCommit old new
  go None it = by_shows old new _ _ it.3.0
  go (Some what) (inl it) = by_shows old new _ _ it.1.0
  go (Some what) (inr it) = by_failing old new _ e it

pub kept_by_row : (sql : List ℕ) (params : Row) (old new : State) (r : Result Row Error) → IsTrue old.in_transaction → QueriesRowInside sql params old new r
    → KeepsCommit old new
unfolding QueriesRow
kept_by_row sql params old new (Ok row) inside (inl h) = by_shows old new _ _ h.1.0
kept_by_row sql params old new (Ok row) inside (inr h) = (shown_kept sql params old new h.0 inside h.1).0
kept_by_row sql params old new (Err e) inside (inl (inl h)) = failed_kept sql params old new e h
kept_by_row sql params old new (Err e) inside (inl (inr h)) = (shown_kept sql params old new [] inside h.1).0
kept_by_row sql params old new (Err e) inside (inr h) = by_shows old new _ _ h.5.0

pub inside_after_row : (sql : List ℕ) (params : Row) (old new : State) (r : Result Row Error) → IsTrue old.in_transaction
    → QueriesRowInside sql params old new r → OnOk r (IsTrue new.in_transaction)
unfolding QueriesRow
inside_after_row sql params old new (Ok row) inside (inl h) = h.1.0.mode ∙ inside
inside_after_row sql params old new (Ok row) inside (inr h) = (shown_kept sql params old new h.0 inside h.1).1
inside_after_row sql params old new (Err e) inside h = tt

pub always : {X E : Type 0} (r : Result X E) (P : Type 0) → P → OnOk r P
always (Ok x) P h = h
always (Err e) P h = tt

pub kept_then : (a b c : State) → KeepsCommit a b → KeepsCommit b c → KeepsCommit a c
kept_then a b c p q = record { was_open = λ h. p.was_open (q.was_open h); committed = λ h. q.committed h ∙ p.committed (q.was_open h) }

pub on_ok : {X E : Type 0} (r : Result X E) (P Q : Type 0) → (P → Q) → OnOk r P → OnOk r Q
on_ok (Ok x) P Q f h = f h
on_ok (Err e) P Q f h = tt

pub kept_by_failing : (sql : List ℕ) (params : Row) (old new : State) (e : Error) → FailsToQuery sql params old new e ⊎ IsTooLate sql params old new e
    → KeepsCommit old new
kept_by_failing sql params old new e (inl h) = failed_kept sql params old new e h
kept_by_failing sql params old new e (inr h) = by_shows old new _ _ h.5.0

-- rows come from an open store alone
pub shown_open : (sql : List ℕ) (params : Row) (old new : State) (rows : List Row) → Shown sql params old new rows → IsTrue old.is_open
unfolding Shown
shown_open sql params old new rows h = go h.0.returning h.2 where
  go : (what : _) → ShowsRows old new sql h.0 (timed params h.0.formats h.1.now) rows what → IsTrue old.is_open
  go None it = it.3.0.was_open
  go (Some what) it = it.1.shown.was_open

-- a query that writes nothing leaves the database and the transaction
pub plain_rests : (sql : List ℕ) (params : Row) (old new : State) (rows : List Row) → IsTrue old.in_transaction → IsPlain (understood old.now.schema sql)
    → Shown sql params old new rows → Rests old new
unfolding Shown
plain_rests sql params old new rows inside plain h = let none = (subst IsPlain h.1.is plain).0 in
    let it = subst (ShowsRows old new sql h.0 (timed params h.0.formats h.1.now) rows) none h.2 in
    record { now_is = it.3.0.now_is; inside = it.3.0.mode ∙ inside }

-- a row comes from an open store alone
pub open_by_row : (sql : List ℕ) (params : Row) (old new : State) (row : Row) → QueriesRow sql params old new (Ok row) → IsTrue old.is_open
unfolding QueriesRow
open_by_row sql params old new row (inl h) = h.1.0.was_open
open_by_row sql params old new row (inr h) = shown_open sql params old new h.0 h.1

-- a borrowed transaction that is rolled back leaves the last commit, while the store is open
module _ (start begun lent new : State) (was_open : IsTrue begun.is_open → IsTrue start.is_open) (was : begun.committed ≡ start.committed)
    (kept : KeepsCommit begun lent) (rolled : IsRolledBack lent new) where
  pub rests_open : IsTrue new.is_open → IsTrue start.is_open
  rests_open now = was_open (kept.was_open (rolled.was_open now))

  pub committed_rests : IsTrue new.is_open → new.committed ≡ start.committed
  committed_rests now = (rolled.undone now).1 ∙ kept.committed (rolled.was_open now) ∙ was
