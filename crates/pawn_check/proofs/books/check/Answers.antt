use Rattle.pawn_book.proofs.Reading.{reads_as, reads_then, reads_both}
use Rattle.pawn_book.specs.Keeping.{IsNextBook}
use Rattle.pawn_book.specs.Sound.{AreSound}
use Rattle.pawn_check.proofs.Meeting.{AreMet, all_are_met, fits, next_is, none_are_met, one_is_left, one_more}
use Rattle.pawn_check.specs.Checking.{AreCounted}
use Rattle.std.proofs.Common.{◌≡◌, ◌+◌, ◌-◌, inl, inr, ℕ, Some, None, refl, sym, subst, arith}
use Rattle.pawn_check.proofs.books.check.Goals as goal

pub loop-book-init : goal.loop-book-init
loop-book-init g c = record {
  reads = reads_as c.in_ok-rows.ensures.reads (λ h is. (is, none_are_met h c.in_ok-rows.rows is));
  last = refl;
  few = omega arith;
  fewer = omega arith;
  low = omega arith;
}

pub returns-then-get-above-clause-checks : goal.returns-then-get-above-clause-checks
returns-then-get-above-clause-checks g c =
    reads_then (reads_both c.loop-book.invariant.reads c.in_ok-book.ensures.reads) c.in_ok-has.ensures.reads (λ h both checked.
    let a : ℕ = c.loop-book.above in
    let next : IsNextBook h a (Some c.in-Some.book) =
    subst (λ (x : ℕ). IsNextBook h x (Some c.in-Some.book)) (sym c.loop-book.invariant.last) (rw c.in-Some.is at both.1) in
    let it = next_is h a c.in-Some.book c.in_ok-has.has next checked in
    let low = it.1.low in
    let few = fits h a c.in-Some.book c.loop-book.books c.loop-book.pledges c.loop-book.left c.in_ok-has.has it.0 both.0.1 it.1 in
    let is = c.get.ensures.value in
    absurd (elim c.then-get-above.either as (λ _. ⊥) [
      | inl x ↦ omega (arith, x, low, is)
      | inr x ↦ omega (arith, x.1, few)
    ]))

pub loop-book-preserved : goal.loop-book-preserved
loop-book-preserved g c = record {
  reads = reads_then (reads_both c.loop-book.invariant.reads c.in_ok-book.ensures.reads) c.in_ok-has.ensures.reads (λ h both checked.
      let a : ℕ = c.loop-book.above in
      let next : IsNextBook h a (Some c.in-Some.book) =
      subst (λ (x : ℕ). IsNextBook h x (Some c.in-Some.book)) (sym c.loop-book.invariant.last) (rw c.in-Some.is at both.1) in
      let it = next_is h a c.in-Some.book c.in_ok-has.has next checked in
      let more = one_more h a c.in-Some.book c.loop-book.books c.loop-book.pledges c.loop-book.left c.in_ok-has.has it.0 both.0.1 it.1 in (
        both.0.0,
        subst (λ (x : ℕ). AreMet h x (c.loop-book.books + 1) (c.loop-book.pledges + c.in_ok-has.has.pledges) (c.loop-book.left - c.in_ok-has.has.rows))
            (sym c.get-above.ensures.value) more,
      ));
  last = c.get-above.ensures.value;
  few = let value = c.get.ensures.value in let second = c.get-above.ensures.value in let past = c.if-get-above.false in
      omega (arith, c.loop-book.invariant.few, value, second, past);
  fewer = let few = c.in_ok-has.ensures.few in omega (arith, c.loop-book.invariant.fewer, few);
  low = let value = c.get-above.ensures.value in let most = c.get-above.ensures.in_range in omega (arith, value, most);
}

pub returns-then-left-gt0-clause-checks : goal.returns-then-left-gt0-clause-checks
returns-then-left-gt0-clause-checks g c =
    reads_then c.loop-book.invariant.reads c.in_ok-book.ensures.reads (λ h before said.
    let a : ℕ = c.loop-book.above in
    let last : IsNextBook h a None = subst (λ (x : ℕ). IsNextBook h x None) (sym c.loop-book.invariant.last) (rw c.in_default.is at said) in
    one_is_left h a c.loop-book.books c.loop-book.pledges c.loop-book.left before.1 last c.if-left-gt0.true)

pub returns-clause-checks : goal.returns-clause-checks
returns-clause-checks g c =
    reads_then c.loop-book.invariant.reads c.in_ok-book.ensures.reads (λ h before said.
    let a : ℕ = c.loop-book.above in
    let last : IsNextBook h a None = subst (λ (x : ℕ). IsNextBook h x None) (sym c.loop-book.invariant.last) (rw c.in_default.is at said) in
    let none : c.loop-book.left ≡ 0 = (let test = c.if-left-gt0.false in omega (arith, test)) in
    let all = all_are_met h a c.loop-book.books c.loop-book.pledges c.loop-book.left before.1 last none in
    subst (λ (r : ℕ). AreSound h × AreCounted h (record { books = c.loop-book.books; pledges = c.loop-book.pledges; rows = r })) (sym before.0) all)
