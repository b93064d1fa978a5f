use Rattle.pawn_csv.proofs.Basics.{rules, ◌∙◌, sym, ap, List, ℕ}
use Rattle.pawn_csv.proofs.ColumnLemmas.{no_secret, same_secret}
use Rattle.pawn_csv.specs.Common.{secret_text}
use Rattle.std.specs.Cmp.Lexicographic.{same_text, other_text}
use Rattle.uuid.specs.Text.{hyphenated_text, lower}
use Rattle.pawn_csv.proofs.columns.read_secret.Goals as goal

pub returns-in_default : goal.returns-in_default
returns-in_default c = record { value = λ word small is. no_secret c.args.field.now word (rw c.in_default.is at c.of_text.ensures.value) small is }

pub returns-then-eq : goal.returns-then-eq
returns-then-eq c =
    let spelled = c.as_bytes.ensures.value ∙ c.encode_lower-text.ensures.text
    ∙ ap (λ (xs : List ℕ). hyphenated_text lower xs) (c.hyphenated.ensures ∙ c.from_u128.ensures) ∙ ap secret_text c.word.ensures.value in
    record { value = (search rules, sym (same_text c.as_bytes.result.now c.args.field.now (sym c.if-eq.true ∙ c.eq.ensures)) ∙ spelled) }

pub returns-else-eq : goal.returns-else-eq
returns-else-eq c =
    let spelled = c.as_bytes.ensures.value ∙ c.encode_lower-text.ensures.text
    ∙ ap (λ (xs : List ℕ). hyphenated_text lower xs) (c.hyphenated.ensures ∙ c.from_u128.ensures) ∙ ap secret_text c.word.ensures.value in
    record {
      value = λ word small is. other_text c.as_bytes.result.now c.args.field.now (sym c.if-eq.false ∙ c.eq.ensures)
          (spelled ∙ ap secret_text (same_secret c.args.field.now word c.in-Some.secret (rw c.in-Some.is at c.of_text.ensures.value) small is) ∙ sym is);
    }
