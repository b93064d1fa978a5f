use Rattle.pawn_csv.proofs.Basics.{◌≡◌, ◌++◌}
use Rattle.pawn_csv.specs.Finishing.{AreRawOf}
use Rattle.pawn_csv.proofs.finishing.all_parts.Given as goal

abbrev pub invariant-loop-raw : goal.invariant-loop-raw
invariant-loop-raw l = record {
  can_next : (goal.iterator-loop-raw).can_next l.raw-iterator;
  is_finite : (goal.iterator-loop-raw).is_finite l.raw-iterator;
  whole : l.yielded ++ l.raw-iterator.rest.items ≡ l.fn.raws.items;
  so_far : AreRawOf l.terms l.yielded l.all.items;
}
