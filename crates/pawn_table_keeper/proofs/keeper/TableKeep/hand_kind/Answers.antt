use Rattle.pawn_table_keeper.proofs.Handings.{hands_as}
use Rattle.pawn_table_keeper.proofs.RowHandings.{told_past}
use Rattle.pawn_table_keeper.specs.Common.{get, pledge_in}
use Rattle.pawn_table_keeper.specs.Handing.{keeping_of}
use Rattle.pawn_tables.proofs.Basics.{nat_tests}
use Rattle.pawn_tables.specs.Kinds.{kind_rows_if_any}
use Rattle.std.proofs.Common.{ap, arith, false, nat_le, ◌∙◌, ◌≡◌}
use Rattle.pawn_table_keeper.proofs.keeper.TableKeep.hand_kind.Goals as goal

pub returns : goal.returns
returns g c = let past : nat_le c.args.number c.args.page.now.whole ≡ false = grind (arith, nat_tests, c.if-number-page.false) in
    let same : c.in-Some.number ≡ c.args.number = c.in-Some.ensures.some ∙ c.from.ensures in
    record {
      hands = hands_as (keeping_of g.S.Store) g.V.Visitor.step _ _ _ _ _ _ _
          (λ h. ap (λ n. kind_rows_if_any c.args.page.now.kind (pledge_in (get h.books c.args.book) n)) same
          ∙ told_past c.args.number (get h.books c.args.book) c.args.page.now past) c.hand_list.ensures.hands;
    }
