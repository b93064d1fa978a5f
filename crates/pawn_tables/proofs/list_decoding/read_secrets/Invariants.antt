use Rattle.pawn_tables.proofs.RowReading.{Issued, IsWord, AreReadTo}
use Rattle.pawn_tables.specs.Rows.{secret_cells}
use Rattle.pawn_tables.proofs.list_decoding.read_secrets.Given as goal

abbrev pub invariant-loop-row : goal.invariant-loop-row
invariant-loop-row l = AreReadTo (secret_cells) (λ (i : Issued). IsWord i.secret) l.rows l.row-index l.secrets
