-- A write with RETURNING.
use Rattle.one_table.proofs.Texts.{returning_of, formats_of}
use Rattle.one_table.specs.Common.{Returning, Row, Schema}
use Rattle.sqlite.proofs.Callers.{command_of, statement_of}
use Rattle.sqlite.specs.Command.{Command}
use Rattle.sqlite.specs.Listing.{understood}
use Rattle.sqlite.specs.State.{Begins, QueriesRow, Shown, State, Writes}
use Rattle.std.proofs.Common.{◌≡◌, inl, inr, ℕ, List, [], Some, Ok, sym, ap, subst₂, ◌∙◌, append-nil, slice_get}

module _ (sql : List ℕ) (params : Row) (old new : State) (schema : Schema) (has : old.now.schema ≡ schema) (command : Command) (what : Returning)
    (is : command_of (understood schema sql) ≡ command) (returns : returning_of (understood schema sql) ≡ Some what)
    (timeless : formats_of (understood schema sql) ≡ []) where
  abbrev ReturnedAs : List Row → Type 0
  ReturnedAs rows = (count : ℕ) × (w : Writes old new (Some what) command (statement_of sql (understood schema sql)) params count) × (rows ≡ w.tally.shown)

  pub returned_as : (rows : List Row) → Shown sql params old new rows → ReturnedAs rows
  unfolding Shown
  returned_as rows h = let known = sym h.1.is ∙ ap (λ s. understood s sql) has in
      let some : h.0.returning ≡ Some what = ap returning_of known ∙ returns in
      let none : h.0.formats ≡ [] = ap formats_of known ∙ timeless in let it = rw (some, none, append-nil params) at h.2 in
      subst₂ (λ k t. (count : ℕ) × (w : Writes old new (Some what) k t params count) × (rows ≡ w.tally.shown)) (ap command_of known ∙ is)
      (ap (statement_of sql) known) it

  pub row_returned : (row : Row) → QueriesRow sql params old new (Ok row) → (rows : List Row) × ReturnedAs rows × (slice_get rows 0 ≡ Some row)
  unfolding QueriesRow Begins
  row_returned row (inl h) = let known = sym h.0.1.is ∙ ap (λ s. understood s sql) has in
      let some : h.0.0.returning ≡ Some what = ap returning_of known ∙ returns in
      absurd (let e = sym h.0.2 ∙ some in cc)
  row_returned row (inr h) = (h.0, returned_as h.0 h.1, h.2)
