use Rattle.pawn_reply.proofs.BodyLemmas.{opened_text-json, refusal_text-json}
use Rattle.pawn_reply.proofs.DoneLemmas.{entered_text-json, held_text-json, declared_text-json, booked_text-json}
use Rattle.pawn_reply.proofs.DoneLemmas.{redeemed_text-json, extended_text-json}
use Rattle.serde_json.proofs.OnLiterals.{serde_json_on_literals}
use Rattle.std.proofs.Common.{refl}
use Rattle.pawn_reply.proofs.laws.bodies_are_json.Goals as goal

pub returns : goal.returns
unfolding serde_json_on_literals
returns c = record {
  law = record {
    book = λ book. refl;
    version = λ version. refl;
    filled = λ pledges. refl;
    opened = opened_text-json;
    refusal = refusal_text-json;
    entered = entered_text-json;
    held = held_text-json;
    declared = declared_text-json;
    booked = booked_text-json;
    redeemed = redeemed_text-json;
    sold = λ net shortfall surplus. refl;
    extended = extended_text-json;
  };
}
