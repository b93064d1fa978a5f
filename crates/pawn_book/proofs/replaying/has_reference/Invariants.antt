use Rattle.pawn_book.specs.Common.{list_any}
use Rattle.pawn_book.specs.Rows.{references_of, is_same_text}
use Rattle.std.proofs.Common.{◌≡◌, drop}
use Rattle.pawn_book.proofs.replaying.has_reference.Given as goal

abbrev pub invariant-loop-parts : goal.invariant-loop-parts
invariant-loop-parts l =
    list_any (is_same_text l.reference) (references_of l.pledges) ≡ list_any (is_same_text l.reference) (references_of (drop l.parts-index l.pledges))
