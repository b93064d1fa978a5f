-- The cells of a row.
use Rattle.pawn_tables.specs.Common.{Row, column, Value}
use Rattle.std.proofs.Common.{◌≡◌, ℕ, ◌<◌, length, sym, ap, subst, ◌∙◌}

-- what stands in a column, where the row is known
pub cell_at : {row cells : Row} (at : ℕ) {v : Value} → row ≡ cells → at < length cells → column cells at ≡ v → (at < length row) × (column row at ≡ v)
cell_at at is within cell = (subst (λ r. at < length r) (sym is) within, ap (λ r. column r at) is ∙ cell)
