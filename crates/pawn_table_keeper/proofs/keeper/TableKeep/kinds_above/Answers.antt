use Rattle.pawn_book.proofs.Reading.{reads_as, reads_then}
use Rattle.pawn_table_keeper.proofs.Handings.{errs_after, errs_as}
use Rattle.pawn_table_keeper.proofs.RowHandings.{kind_added, reads_err}
use Rattle.pawn_table_keeper.proofs.Walks.{errs_ok}
use Rattle.pawn_table_keeper.specs.Common.{get}
use Rattle.pawn_table_keeper.specs.Handing.{keeping_of}
use Rattle.std.proofs.Common.{Err, length, refl, rules, take_all, ◌∙◌, ◌≡◌, ◌≤◌}
use Rattle.pawn_table_keeper.proofs.keeper.TableKeep.kinds_above.Goals as goal

pub returns-in_err-add_kind : goal.returns-in_err-add_kind
returns-in_err-add_kind g c = let is : c.from_residual.result ≡ Err c.in_err-add_kind.field-0.0 = search rules in
    record {
      states = record {
        reads = reads_err (keeping_of g.S.Store) _ _ c.from_residual.result c.in_err-add_kind.field-0.0 _ is
            (reads_then c.loop-index.invariant c.in_err-add_kind.ensures.states.reads (λ h before one. tt));
        errs = errs_after (keeping_of g.S.Store) _ _ _ c.from_residual.result c.loop-index.invariant c.in_err-add_kind.ensures.states.reads
            (errs_as (keeping_of g.S.Store) _ _ (Err c.in_err-add_kind.field-0.0) c.from_residual.result c.in_err-add_kind.field-0.0 refl is
            c.in_err-add_kind.ensures.states.errs);
      };
    }

pub loop-index-preserved : goal.loop-index-preserved
loop-index-preserved g c = reads_then c.loop-index.invariant c.in_ok-add_kind.ensures.states.reads
    (λ h before one. kind_added c.args.above (get h.books c.args.book) _ _ c.args.kinds.now c.loop-index.index _ c.loop-index-test.true before one)

pub returns : goal.returns
returns g c = record {
  states = record {
    reads = reads_as c.loop-index.invariant (λ h are. record {
      kinds_are = are.0 ∙ take_all c.loop-index.index c.args.kinds.now (let end : length c.args.kinds.now ≤ c.loop-index.index = search rules in end);
      each = are.1;
    });
    errs = errs_ok (keeping_of g.S.Store) _ _ _ _ refl;
  };
}
