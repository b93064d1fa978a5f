use Rattle.pawn_pledge.specs.Secret.{secret_text}
use Rattle.std.proofs.Common.{ℕ, List, ap, ◌∙◌}
use Rattle.std.proofs.lemmas.Result.{IfOk-weaker}
use Rattle.uuid.specs.Text.{hyphenated_text, lower}
use Rattle.pawn_pledge.proofs.secret.Secret.text.Goals as goal

pub returns : goal.returns
returns c =
    record {
      ok = IfOk-weaker c.from_str.result _ _ (λ t e. e ∙ c.encode_lower-text.ensures.text
          ∙ ap (λ (xs : List ℕ). hyphenated_text lower xs) (c.hyphenated.ensures ∙ c.from_u128.ensures) ∙ ap secret_text c.self.view_is) c.from_str.ensures.ok;
    }
