use Rattle.pawn_book.proofs.Sounds.{put_next}
use Rattle.pawn_list_keeper.proofs.PledgePlaces.{put_from_place}
use Rattle.std.proofs.Common.{◌≡◌, ◌+◌, ◌-◌, ◌<◌, length, ◌∙◌, sym, arith}
use Rattle.pawn_list_keeper.proofs.saving.put.Goals as goal

pub returns-then-place-len-clause-ok : goal.returns-then-place-len-clause-ok
returns-then-place-len-clause-ok c =
    let place : c.args.number ≡ 1 + (c.get.result - 1) = let value = c.get.ensures.value in let low = c.get.ensures.in_range.0 in omega (arith, value, low) in
    let len : c.len.result ≡ length c.args.pledges.now.items = c.len.ensures ∙ c.args.pledges.now.ok.0 in
    let within : c.get.result - 1 < length c.args.pledges.now.items = let less = c.if-place-len.true in omega (arith, less, len) in
    put_from_place 1 c.args.pledges.now.items (c.get.result - 1) c.args.number c.args.pledge within place

pub returns-clause-ok : goal.returns-clause-ok
returns-clause-ok c =
    let len : c.len.result ≡ length c.args.pledges.now.items = c.len.ensures ∙ c.args.pledges.now.ok.0 in
    let next : c.args.number ≡ 1 + length c.args.pledges.now.items =
    let value = c.get.ensures.value in let low = c.get.ensures.in_range.0 in let past = c.if-place-len.false in let most = c.requires.within in
    omega (arith, value, low, past, most, len) in
    c.in_ok-push.ensures.items ∙ sym (put_next 1 c.args.pledges.now.items c.args.number c.args.pledge next)
