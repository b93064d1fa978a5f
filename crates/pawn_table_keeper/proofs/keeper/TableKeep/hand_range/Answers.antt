use Rattle.pawn_book.proofs.Reading.{reads_then}
use Rattle.pawn_table_keeper.proofs.Handings.{hands_as, hands_nothing, hands_unread}
use Rattle.pawn_table_keeper.proofs.RowHandings.{range_cut, range_end, range_go}
use Rattle.pawn_table_keeper.specs.Common.{Stop, flat_map, get}
use Rattle.pawn_table_keeper.specs.Exports.{number_rows, numbers_from}
use Rattle.pawn_table_keeper.specs.Handing.{keeping_of}
use Rattle.pawn_tables.proofs.Basics.{nat_tests}
use Rattle.std.proofs.Common.{Err, Ok, ap, arith, refl, rules, ◌+◌, ◌≡◌}
use Rattle.pawn_book.specs.declared.fault.KeepError.TheVariants as Keeper
use Rattle.pawn_table_keeper.specs.Common.{Database}
use Rattle.pawn_table_keeper.proofs.keeper.TableKeep.hand_range.Goals as goal

pub returns-in_err-pages : goal.returns-in_err-pages
returns-in_err-pages g c = record {
  hands = hands_unread (keeping_of g.S.Store) g.V.Visitor.step _ _ _ (Err c.in_err-pages.field-0.0) c.from_residual.result c.in_err-pages.field-0.0
      (λ h. flat_map (number_rows (get h.books c.args.book)) (numbers_from c.args.above 32)) {P = λ h. Unit {0}} refl (search rules)
      c.in_err-pages.ensures.states.reads c.in_err-pages.ensures.states.errs;
}

pub loop-step-init : goal.loop-step-init
loop-step-init g c = record {
  within = omega arith;
  pages = c.in_ok-pages.ensures.states.reads;
  handed = hands_nothing (keeping_of g.S.Store) g.V.Visitor.step _ _ _ (λ h. flat_map (number_rows (get h.books c.args.book)) (numbers_from c.args.above 0))
      c.in_ok-pages.ensures.states.reads (λ h are. refl);
}

pub returns-in_default : goal.returns-in_default
returns-in_default g c = record {
  hands = range_cut (keeping_of g.S.Store) g.V.Visitor.step (λ h. get h.books c.args.book) c.args.above c.loop-step.step _ _ _ _ 32 c.loop-step.invariant.within
      c.loop-step.invariant.handed (Err (Keeper.Store Database)) (Keeper.Store Database) refl (λ e. cc e) (λ steady. steady);
}

pub returns-in_err-hand_pledge : goal.returns-in_err-hand_pledge
returns-in_err-hand_pledge g c = let number : c.in-Some.number ≡ c.args.above + (c.loop-step.step + 1) = search rules in
    record {
      hands = range_end (keeping_of g.S.Store) g.V.Visitor.step (λ h. get h.books c.args.book) c.args.above c.loop-step.step c.in_ok-pages.pages.items _ _ _ _
          _ _
          c.loop-step.invariant.pages c.loop-step.invariant.handed 32 (Err c.in_err-hand_pledge.field-0.0) c.from_residual-in_err-hand_pledge.result
          (let some = c.loop-step-test.true in omega (arith, some)) (λ e. cc e) (search rules)
          (rw (number, c.deref.ensures.value) at c.in_err-hand_pledge.ensures.hands);
    }

pub returns-in-Stop : goal.returns-in-Stop
returns-in-Stop g c = let number : c.in-Some.number ≡ c.args.above + (c.loop-step.step + 1) = search rules in
    record {
      hands = range_end (keeping_of g.S.Store) g.V.Visitor.step (λ h. get h.books c.args.book) c.args.above c.loop-step.step c.in_ok-pages.pages.items _ _ _ _
          _ _
          c.loop-step.invariant.pages c.loop-step.invariant.handed 32 (Ok Stop) (Ok Stop) (let some = c.loop-step-test.true in omega (arith, some)) (λ e. cc
          e) refl
          (rw (number, c.deref.ensures.value, c.in-Stop.is) at c.in_ok-hand_pledge.ensures.hands);
    }

pub loop-step-preserved : goal.loop-step-preserved
loop-step-preserved g c = let number : c.in-Some.number ≡ c.args.above + (c.loop-step.step + 1) = search rules in
    let here = rw (number, c.deref.ensures.value, c.in-Go.is) at c.in_ok-hand_pledge.ensures.hands in
    record {
      within = let some = c.loop-step-test.true in omega (arith, some);
      pages = reads_then c.loop-step.invariant.pages here.reads (λ h are share. are);
      handed = range_go (keeping_of g.S.Store) g.V.Visitor.step (λ h. get h.books c.args.book) c.args.above c.loop-step.step c.in_ok-pages.pages.items _ _ _ _
          _ _
          c.loop-step.invariant.pages c.loop-step.invariant.handed here;
    }

pub returns : goal.returns
returns g c = let end : c.loop-step.step ≡ 32 = grind (arith, nat_tests, c.loop-step-test.false, c.loop-step.invariant.within) in
    record {
      hands = hands_as (keeping_of g.S.Store) g.V.Visitor.step _ _ _ _ _ _ _
          (λ h. ap (λ n. flat_map (number_rows (get h.books c.args.book)) (numbers_from c.args.above n)) end) c.loop-step.invariant.handed;
    }
