use Rattle.pawn_list_keeper.proofs.NextLemmas.{all_of, least_more, one_more}
use Rattle.pawn_list_keeper.specs.Listed.{IsLeastAbove, listed_book}
use Rattle.std.proofs.Common.{subst, sym}
use Rattle.pawn_list_keeper.proofs.list_reads.next_number.Goals as goal

pub returns : goal.returns
returns c = record {
  least = (subst (λ es. IsLeastAbove es c.args.after c.loop-kept.next)
      (all_of c.args.books.now c.loop-kept.kept-index c.loop-kept-test.false) c.loop-kept.invariant);
}

pub loop-kept-preserved : goal.loop-kept-preserved
loop-kept-preserved c =
    subst (λ es. IsLeastAbove es c.args.after c.nearer_number-next.result)
    (sym (one_more c.args.books.now c.loop-kept.kept-index c.kept-item.result c.loop-kept-test.true c.kept-item.is)) (subst (IsLeastAbove _ c.args.after)
    (sym c.nearer_number-next.ensures.value) (least_more _ (listed_book c.kept-item.result) c.args.after c.loop-kept.next c.loop-kept.invariant))
