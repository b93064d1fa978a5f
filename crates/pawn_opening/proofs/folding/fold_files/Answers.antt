use Rattle.pawn_opening.proofs.Begun.{stands_committed}
use Rattle.pawn_opening.proofs.folding.fold_files.Goals as goal

pub returns-in-Ok-close_files : goal.returns-in-Ok-close_files
returns-in-Ok-close_files g c = record {
  folded = λ clean h stands.
      let opened = c.in-Ok.ensures.stands (c.in-Ok-close_files.ensures.clean clean) h stands in
      c.in-Ok-close_files.ensures.kept clean h (λ open'. stands_committed opened);
}
