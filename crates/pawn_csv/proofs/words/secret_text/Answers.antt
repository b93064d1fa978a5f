use Rattle.pawn_csv.proofs.Basics.{ℕ, List, ap, ◌∙◌}
use Rattle.pawn_csv.specs.Common.{secret_text}
use Rattle.uuid.specs.Text.{hyphenated_text, lower}
use Rattle.pawn_csv.proofs.words.secret_text.Goals as goal

pub returns : goal.returns
returns c = record {
  value = c.as_bytes.ensures.value ∙ c.encode_lower.ensures.text
      ∙ ap (λ (xs : List ℕ). hyphenated_text lower xs) (c.hyphenated.ensures ∙ c.from_u128.ensures) ∙ ap secret_text c.word.ensures.value;
}
