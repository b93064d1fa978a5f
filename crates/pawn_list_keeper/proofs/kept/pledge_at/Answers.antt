use Rattle.pawn_book.proofs.Places.{pledge_past}
use Rattle.pawn_list_keeper.proofs.ListReads.{pledge_from_place}
use Rattle.std.proofs.Common.{◌≡◌, ◌+◌, ◌-◌, ◌≤◌, length, ap, sym, ◌∙◌, arith, Some}
use Rattle.pawn_list_keeper.proofs.kept.pledge_at.Goals as goal

pub returns-then-place-pledges : goal.returns-then-place-pledges
returns-then-place-pledges c = record {
  found = (
      let place : c.args.number ≡ 1 + (c.get.result - 1) = let value = c.get.ensures.value in let low = c.get.ensures.in_range.0 in omega (arith, value, low) in
      pledge_from_place 1 c.args.pledges.now (c.get.result - 1) c.args.number c.index-pledges-place.result c.if-place-pledges.true place
      ∙ ap Some (sym c.index-pledges-place.is));
}

pub returns-else-place-pledges : goal.returns-else-place-pledges
returns-else-place-pledges c = record {
  found = (
      let past : 1 + length c.args.pledges.now ≤ c.args.number = let value = c.get.ensures.value in let low = c.get.ensures.in_range.0 in let beyond =
      c.if-place-pledges.false in omega (arith, value, low, beyond) in
      pledge_past 1 c.args.pledges.now c.args.number past);
}
