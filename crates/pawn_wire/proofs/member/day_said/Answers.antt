use Rattle.pawn_terms.specs.declared.day.BadDay.{BadDay}
use Rattle.pawn_wire.proofs.NamedLemmas.{day_said-some, day_said-none}
use Rattle.std.proofs.Common.{◌≡◌, ℕ, Result, Ok, Err, IsOk, IfOk, Some, sym, ap, ◌∙◌}
use Rattle.std.specs.Result.{result_ok}
use Rattle.pawn_wire.proofs.member.day_said.Goals as goal

same_day : (r : Result ℕ BadDay) (day : ℕ) → IfOk r (λ d. d ≡ day) → IsOk r → result_ok r ≡ Some day
same_day (Ok d) day e ok = ap Some e
same_day (Err f) day e ok = absurd cc

pub returns-in-Ok : goal.returns-in-Ok
returns-in-Ok c =
    let day = c.in-Ok.ensures.ok in
    record {
      value = c.ok.ensures.value ∙ same_day c.of_day.result c.in-Ok.day c.of_day.ensures.ok (c.of_day.ensures.succeeds.1 day.1)
          ∙ sym (day_said-some c.in-Ok.day c.args.text.now day.1 (sym c.as_bytes.ensures.value ∙ day.0));
    }

pub returns-in-Err : goal.returns-in-Err
returns-in-Err c = record {
  value = sym (day_said-none c.args.text.now (λ m stamp e. (let found = c.in-Err.ensures.succeeds.1 (m, stamp, c.as_bytes.ensures.value ∙ e) in cc)));
}
