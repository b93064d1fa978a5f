use Rattle.pawn_table_keeper.proofs.PageHandings.{page_goes, page_stops, page_whole}
use Rattle.pawn_table_keeper.specs.Common.{item_of}
use Rattle.std.proofs.Common.{rules}
use Rattle.pawn_table_keeper.proofs.keeper.handing.hand_lines.Goals as goal

pub returns-in-Stop : goal.returns-in-Stop
returns-in-Stop g c = record {
  hands = (page_stops g.V.Visitor.step (item_of c.args.part) c.args.lines.now c.args.visitor.now c.loop-line.visitor c.visit.new.self c.loop-line.line-index
      c.line-item.result c.loop-line-test.true c.line-item.is c.loop-line.invariant (rw (c.item-item.ensures.value, c.in-Stop.is) at c.visit.ensures.steps));
}

pub loop-line-preserved : goal.loop-line-preserved
loop-line-preserved g c =
    page_goes g.V.Visitor.step (item_of c.args.part) c.args.lines.now c.args.visitor.now c.loop-line.visitor c.visit.new.self c.loop-line.line-index
    c.line-item.result c.loop-line-test.true c.line-item.is c.loop-line.invariant (rw (c.item-item.ensures.value, c.in-Go.is) at c.visit.ensures.steps)

pub returns : goal.returns
returns g c = record {
  hands = page_whole g.V.Visitor.step (item_of c.args.part) c.args.lines.now c.args.visitor.now c.loop-line.visitor c.loop-line.line-index
      (search rules) c.loop-line.invariant;
}
