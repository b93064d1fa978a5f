use Rattle.pawn_book.proofs.Reading.{reads_as}
use Rattle.pawn_table_keeper.proofs.Walks.{errs_ok}
use Rattle.pawn_table_keeper.specs.Handing.{keeping_of}
use Rattle.std.proofs.Common.{Ok, refl}
use Rattle.pawn_table_keeper.proofs.keeper.TableKeep.add_kind.Goals as goal

pub returns-in-Ok : goal.returns-in-Ok
returns-in-Ok g c = record {
  states = record {
    reads = reads_as c.in_ok-page.ensures.states.reads
        (λ h one. record { page = c.in_ok-page.page; added = c.in-Ok.ensures.value; kind_is = one.0; is = one.1 });
    errs = errs_ok (keeping_of g.S.Store) _ _ (Ok tt) tt refl;
  };
}
