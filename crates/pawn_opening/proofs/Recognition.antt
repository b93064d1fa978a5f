-- A store is asked for the number of its schema.
use Rattle.one_table.proofs.Queries.{IsQuery, OnlyReads, only_reads}
use Rattle.pawn_opening.specs.Common.{Compiled, CompileError, everything, Rows, Select, Database, understood, Row}
use Rattle.pawn_opening.specs.Common.{State, Trees, Error, SqlInputError, READ_SCHEMA}
use Rattle.pawn_opening.specs.Opened.{IsAsBefore}
use Rattle.pawn_opening.specs.Refusing.{AnswersOpening, HasNoAnswer}
use Rattle.sqlite.proofs.StateLemmas.{survives_weaker}
use Rattle.sqlite.specs.Clock.{timed}
use Rattle.sqlite.specs.Command.{Command}
use Rattle.sqlite.specs.Effect.{Reads, RefusesToRead}
use Rattle.sqlite.specs.State.{CommitsShowing, Fails, FailsToQuery, FailsToShow, IsNoStatement, IsNotRun, IsRolledBack}
use Rattle.sqlite.specs.State.{IsUnchanged, Shown, ShowsRows, Survives, store_error}
use Rattle.sqlite_resolve.specs.Compile.{first}
use Rattle.sqlite_schema.specs.declared.command.Returning.{Returning}
use Rattle.sqlite_trees.specs.declared.error.StoreError.{StoreError}
use Rattle.sqlite_trees.specs.declared.error.StoreError.TheVariants.{OutOfMemory, Io, Corrupt, Full, Broken, Unstorable}
use Rattle.std.proofs.Common.{◌≡◌, inl, inr, ℕ, List, [], Option, Some, None, Ok, IsSome, IsTrue, refl, sym, subst, ◌∙◌}

asks : IsQuery (first READ_SCHEMA.now)
unfolding everything
asks = (λ schema base. refl, λ schema. refl)

-- whatever is understood of the text only reads
reads_only : (s : State) (c : Compiled) → understood s.now.schema READ_SCHEMA.now ≡ Ok c → (c.returning ≡ None) × (c.formats ≡ [])
reads_only s c is = subst OnlyReads is (only_reads READ_SCHEMA.now s.now.schema asks)

pub unchanged : (old new : State) → IsUnchanged old new → IsAsBefore old new
unchanged old new it = record { was_open = λ now. it.0.was_open; now = λ now. it.0.now_is; committed = λ now. it.0.committed_is }

rolled : (old new : State) → (IsTrue old.is_open → old.now ≡ old.committed) → IsRolledBack old new → IsAsBefore old new
rolled old new settled it = record {
  was_open = it.was_open;
  now = λ now. (it.undone now).0 ∙ sym (settled (it.was_open now));
  committed = λ now. (it.undone now).1;
}

-- an answer came from the open store as it was
pub record IsAnswered (old new : State) (rows : List Row) : Type 0 where
  pub answers : AnswersOpening old.now rows
  pub unchanged : IsUnchanged old new

pub answered : (old new : State) (rows : List Row) → Shown READ_SCHEMA.now [] old new rows → IsAnswered old new rows
unfolding Shown
answered old new rows h = let c = h.0 in
    let it = h.1 in let only = reads_only old c it.is in
    let shows = subst (ShowsRows old new READ_SCHEMA.now c (timed [] c.formats it.now) rows) only.0 h.2 in
    let reads : Reads c.command shows.0 [] rows = subst (λ formats. Reads c.command shows.0 (timed [] formats it.now) rows) only.1 shows.2 in
    record {
      answers = record { means = c; is_understood = it.is; source = shows.0; from = shows.1; reads = reads };
      unchanged = shows.3;
    }

-- a refusal leaves the store as it was
pub left_as_before : (old new : State) (e : Error) → (IsTrue old.is_open → old.now ≡ old.committed) → FailsToQuery READ_SCHEMA.now [] old new e
    → IsAsBefore old new
unfolding FailsToQuery IsNotRun
left_as_before old new e settled (inl (inl h)) = unchanged old new h.1
left_as_before old new e settled (inl (inr h)) = rolled old new settled h.3
left_as_before old new e settled (inr h) = let only = reads_only old h.0 h.1.is in
    let fails = subst (FailsToShow old new READ_SCHEMA.now h.0 (timed [] h.0.formats h.1.now) e) only.0 h.2 in
    unchanged old new fails.3

-- a text that is not understood has no answer
module _ (f : CompileError) where
  no_fault : {X : Type 0} (old new : State) (P : Type 0) → Fails old new P (SqlInputError f) → X
  no_fault {X} old new P h = go h.0 h.1 where
    go : (cause : StoreError) → SqlInputError f ≡ store_error cause → X
    go OutOfMemory is = absurd (let x = is in cc)
    go Io is = absurd (let x = is in cc)
    go Corrupt is = absurd (let x = is in cc)
    go Full is = absurd (let x = is in cc)
    go Broken is = absurd (let x = is in cc)
    go Unstorable is = absurd (let x = is in cc)

  no_refusal : (limit : Option ℕ) (command : Command) (db : Database) (params : Row) → RefusesToRead limit command db params (SqlInputError f) → ⊥
  no_refusal limit (Select q names) db params (inl h) = absurd (let x = h.0 in cc)
  no_refusal limit (Select q names) db params (inr (inl h)) = absurd (let x = h.0 in cc)
  no_refusal limit (Select q names) db params (inr (inr h)) = absurd (let x = h.0 in cc)
  no_refusal limit (Rows values width names) db params h = absurd (let x = h.0 in cc)
  no_refusal limit _ db params h = absurd (let x = h in cc)

  pub unanswered : (old new : State) → FailsToQuery READ_SCHEMA.now [] old new (SqlInputError f) → HasNoAnswer old.now
  unfolding FailsToQuery IsNotRun
  unanswered old new (inl (inl h)) = go h.0 where
    go : IsNoStatement old READ_SCHEMA.now [] (SqlInputError f) → HasNoAnswer old.now
    go (inl it) = (it.0, it.1)
    go (inr (c, is, inl it)) = absurd (let x = it.1 in cc)
    go (inr (c, is, inr (inl it))) = absurd (let x = it.1 in cc)
    go (inr (c, is, inr (inr it))) = absurd (let x = it.1 in cc)
  unanswered old new (inl (inr h)) = no_fault old new _ h
  unanswered old new (inr h) = let only = reads_only old h.0 h.1.is in
      let fails = subst (FailsToShow old new READ_SCHEMA.now h.0 (timed [] h.0.formats h.1.now) (SqlInputError f)) only.0 h.2 in
      absurd (no_refusal old.step_limit h.0.command fails.0 (timed [] h.0.formats h.1.now) fails.2)

not_some : (r : Option Returning) → r ≡ None → IsSome r → ⊥
not_some None is some = absurd (let e = some in cc)
not_some (Some what) is some = absurd (let e = is in cc)

no_commit : (old : State) (db : Trees) → CommitsShowing READ_SCHEMA.now [] old db → ⊥
unfolding CommitsShowing
no_commit old db h = not_some h.0.returning (reads_only old h.0 h.1.is).0 h.2

-- the text commits nothing
pub asks_alone : (old new : State) → Survives old new (CommitsShowing READ_SCHEMA.now [] old) → Survives old new (λ _. ⊥)
asks_alone old new s = survives_weaker old new (CommitsShowing READ_SCHEMA.now [] old) (λ _. ⊥) (λ clean db may. no_commit old db may) s
