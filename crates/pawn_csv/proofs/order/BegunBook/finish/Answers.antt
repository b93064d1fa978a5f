use Rattle.pawn_csv.proofs.Basics.{◌∙◌, sym}
use Rattle.pawn_csv.proofs.FinishLemmas.{ends}
use Rattle.pawn_csv.specs.Order.{view_begun}
use Rattle.pawn_csv.proofs.order.BegunBook.finish.Goals as goal

pub returns-in-Ok : goal.returns-in-Ok
returns-in-Ok c = record {
  value = ends (view_begun c.args.self) c.in-Ok.rows c.as_replayable.result
      (sym c.is_whole.ensures.value ∙ c.if-not-is_whole.false) c.in-Ok.ensures.found c.in-Ok.ensures.none c.as_replayable.ensures.found
      c.as_replayable.ensures.refused;
}
