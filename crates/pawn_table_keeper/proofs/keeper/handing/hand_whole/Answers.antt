use Rattle.pawn_book.proofs.SheetLemmas.{hands_one, hands_then, hands_stop}
use Rattle.pawn_table_keeper.specs.Common.{part_head, with_head, HandsOver, SheetPart, SheetItem, Go, Stop, item_of}
use Rattle.pawn_tables.proofs.Basics.{length-map}
use Rattle.pawn_tables.specs.declared.line.Line.{Line}
use Rattle.std.proofs.Common.{List, [], ap, length, map, subst, sym, ◌∙◌, ◌∷◌, ◌≡◌}
use Rattle.pawn_table_keeper.proofs.keeper.handing.hand_whole.Goals as goal

headed : (part : SheetPart) (lines : List Line) (heading : SheetItem) → heading ≡ part_head part (length lines) → heading ∷ map (item_of part) lines
    ≡ with_head part (map (item_of part) lines)
headed part lines heading is = ap (λ i. i ∷ map (item_of part) lines) (is ∙ ap (part_head part) (sym (length-map lines (item_of part))))

pub returns-in-Go : goal.returns-in-Go
returns-in-Go g c = record {
  hands = (subst (λ xs. HandsOver g.V.Visitor.step c.args.visitor.now xs c.hand_lines.result c.hand_lines.new.visitor)
      (headed c.args.part c.args.lines.now c.heading-heading.result c.heading-heading.ensures.value) (hands_then g.V.Visitor.step c.args.visitor.now
      c.visit.new.self c.hand_lines.new.visitor (c.heading-heading.result ∷ []) (map (item_of c.args.part) c.args.lines.now) c.hand_lines.result (hands_one
      g.V.Visitor.step c.args.visitor.now c.visit.new.self c.heading-heading.result Go (rw c.in-Go.is at c.visit.ensures.steps)) c.hand_lines.ensures.hands));
}

pub returns-in-Stop : goal.returns-in-Stop
returns-in-Stop g c = record {
  hands = (subst (λ xs. HandsOver g.V.Visitor.step c.args.visitor.now xs Stop c.visit.new.self)
      (headed c.args.part c.args.lines.now c.heading-heading.result c.heading-heading.ensures.value)
      (hands_stop g.V.Visitor.step c.args.visitor.now c.visit.new.self (c.heading-heading.result ∷ []) (map (item_of c.args.part) c.args.lines.now)
      (hands_one g.V.Visitor.step c.args.visitor.now c.visit.new.self c.heading-heading.result Stop (rw c.in-Stop.is at c.visit.ensures.steps))));
}
