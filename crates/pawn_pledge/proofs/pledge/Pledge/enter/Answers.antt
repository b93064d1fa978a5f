use Rattle.pawn_pledge.specs.Common.{Entry}
use Rattle.pawn_pledge.specs.Pledge.{PledgeValue}
use Rattle.pawn_pledge.specs.Step.{IsApplied, entry_of, numbered_step}
use Rattle.std.proofs.Common.{Option, ap, subst, ◌∙◌}
use Rattle.pawn_pledge.proofs.pledge.Pledge.enter.Goals as goal

pub returns : goal.returns
returns c =
    let P : Option Entry → Type 0 =
    λ o. IsApplied (numbered_step c.args.self.now c.args.day c.args.seq c.args.sort c.args.pence o) c.args.self.now c.enter_once.result c.enter_once.new.self in
    record { step = subst P (c.entry-existing.ensures.value ∙ ap (λ (q : PledgeValue). entry_of q c.args.seq) c.self.view_is) c.enter_once.ensures.step }
