use Rattle.pawn_book.proofs.Reading.{reads_as, reads_then}
use Rattle.pawn_book.specs.Items.{rows_of_pledges}
use Rattle.pawn_book.specs.declared.items.RowItem.{RowItem}
use Rattle.pawn_table_keeper.proofs.Handings.{hands_nothing, hands_unread}
use Rattle.pawn_table_keeper.proofs.RowHandings.{head_count, no_rows, ranges_all, ranges_end, ranges_go}
use Rattle.pawn_table_keeper.proofs.Walks.{errs_database}
use Rattle.pawn_table_keeper.specs.Common.{Database, Host, Stop, flat_map, get, pledges_of}
use Rattle.pawn_table_keeper.specs.Exports.{number_rows, numbers_from}
use Rattle.pawn_table_keeper.specs.Handing.{keeping_of}
use Rattle.pawn_tables.proofs.Basics.{nat_tests}
use Rattle.std.proofs.Common.{Err, List, Ok, arith, refl, rules, ℕ, ◌*◌, ◌∙◌, ◌≡◌, ◌≤◌}
use Rattle.pawn_book.specs.declared.fault.KeepError.TheVariants as Keeper
use Rattle.pawn_table_keeper.proofs.keeper.TableKeep.hand_rows.Goals as goal

abbrev rows : ℕ → Host → List RowItem
rows book h = rows_of_pledges (pledges_of (get h.books book))

pub returns-in_err-head : goal.returns-in_err-head
returns-in_err-head g c = record {
  hands = hands_unread (keeping_of g.S.Store) g.V.Visitor.step _ _ _ (Err c.in_err-head.field-0.0) c.from_residual.result c.in_err-head.field-0.0
      (rows c.args.book) {P = λ h. Unit {0}} refl (search rules) c.in_err-head.ensures.reads c.in_err-head.ensures.errs;
}

pub returns-in_default : goal.returns-in_default
returns-in_default g c = record {
  hands = hands_nothing (keeping_of g.S.Store) g.V.Visitor.step _ _ _ (rows c.args.book) c.in_ok-head.ensures.reads
      (λ h said. no_rows (get h.books c.args.book) (rw c.in_default.is at said));
}

pub returns-in_default-try_from : goal.returns-in_default-try_from
returns-in_default-try_from g c = record {
  hands = hands_unread (keeping_of g.S.Store) g.V.Visitor.step {A = Unit {0}} _ _ _ (Err (Keeper.Store Database)) (Err (Keeper.Store Database)) (Keeper.Store
      Database)
      (rows c.args.book) refl refl c.in_ok-head.ensures.reads (errs_database (keeping_of g.S.Store) _ _ (Err (Keeper.Store Database)) (λ steady. steady) refl);
}

pub loop-range-init : goal.loop-range-init
loop-range-init g c = let count : c.in-Ok.count ≡ c.in-Some.head.pledges = search rules in
    record {
      counted = reads_as c.in_ok-head.ensures.reads (λ h said. count ∙ head_count (get h.books c.args.book) c.in-Some.head (rw c.in-Some.is at said));
      handed = hands_nothing (keeping_of g.S.Store) g.V.Visitor.step _ _ _ (λ h. flat_map (number_rows (get h.books c.args.book)) (numbers_from 0 (0 * 32)))
          c.in_ok-head.ensures.reads (λ h said. refl);
    }

pub returns-in_err-hand_range : goal.returns-in_err-hand_range
returns-in_err-hand_range g c = record {
  hands = ranges_end (keeping_of g.S.Store) g.V.Visitor.step (λ h. get h.books c.args.book) c.loop-range.range _ _ _ _ c.loop-range.invariant.handed _ _
      (Err c.in_err-hand_range.field-0.0) c.from_residual-in_err-hand_range.result (λ e. cc e) (search rules) c.in_err-hand_range.ensures.hands;
}

pub returns-in-Stop : goal.returns-in-Stop
returns-in-Stop g c = record {
  hands = ranges_end (keeping_of g.S.Store) g.V.Visitor.step (λ h. get h.books c.args.book) c.loop-range.range _ _ _ _ c.loop-range.invariant.handed _ _
      (Ok Stop) (Ok Stop) (λ e. cc e) refl (rw c.in-Stop.is at c.in_ok-hand_range.ensures.hands);
}

pub loop-range-preserved : goal.loop-range-preserved
loop-range-preserved g c = let here = rw c.in-Go.is at c.in_ok-hand_range.ensures.hands in
    record {
      counted = reads_then c.loop-range.invariant.counted here.reads (λ h count share. count);
      handed = ranges_go (keeping_of g.S.Store) g.V.Visitor.step (λ h. get h.books c.args.book) c.loop-range.range _ _ _ _ c.loop-range.invariant.handed _ _
          here;
    }

pub returns : goal.returns
returns g c = let past : c.in-Ok.count ≤ c.loop-range.range * 32 = grind (arith, nat_tests, c.loop-range-test.false) in
    record {
      hands = ranges_all (keeping_of g.S.Store) g.V.Visitor.step (λ h. get h.books c.args.book) c.loop-range.range _ _ _ _ c.loop-range.invariant.handed
          c.in-Ok.count past c.loop-range.invariant.counted;
    }
