use Rattle.pawn_pledge.proofs.TextLemmas.{has_hyphen, cut_at, cut_by}
use Rattle.pawn_pledge.specs.Secret.{secret_of_text}
use Rattle.std.proofs.Common.{◌≡◌, ◌+◌, List, ℕ, ◌∷◌, ◌++◌, Some, None, drop, sym, ap, ◌∙◌, arith}
use Rattle.std.proofs.lemmas.List.{take_rest}
use Rattle.pawn_pledge.proofs.receipt.Receipt.of_text.Goals as goal

pub returns-in_default-clause-err : goal.returns-in_default-clause-err
returns-in_default-clause-err c r h =
    has_hyphen c.args.text.now r.number h.1.0 (omega (arith, h.0)) h.1.1 (sym c.in_default.is ∙ c.hyphen_at.ensures.value)

pub returns-in_default-of_text-clause-err : goal.returns-in_default-of_text-clause-err
returns-in_default-of_text-clause-err c r h =
    let cut = cut_at c.args.text.now r.number c.in-Some.at h.1.0 (omega (arith, h.0)) h.1.1 (sym c.hyphen_at.ensures.value ∙ c.in-Some.is) in
    c.in_default-of_text.ensures.none r.number h.0 cut.0

pub returns-in_default-of_text-2-clause-err : goal.returns-in_default-of_text-2-clause-err
returns-in_default-of_text-2-clause-err c r h =
    let cut = cut_at c.args.text.now r.number c.in-Some.at h.1.0 (omega (arith, h.0)) h.1.1 (sym c.hyphen_at.ensures.value ∙ c.in-Some.is) in
    let e : None ≡ Some r.secret =
    sym c.in_default-of_text-2.is ∙ c.of_text-2.ensures.value ∙ ap secret_of_text (take_rest c.args.text.now (c.in-Some.at + 1) ∙ cut.1) ∙ h.1.2 in
    cc

pub returns-clause-ok : goal.returns-clause-ok
returns-clause-ok c =
    let whole = cut_by c.args.text.now c.in-Some.at (sym c.hyphen_at.ensures.value ∙ c.in-Some.is) in
    let number = c.in-Some-of_text.ensures.some in (
      number.0,
      (
        drop (c.in-Some.at + 1) c.args.text.now,
        whole ∙ ap (λ (digits : List ℕ). digits ++ 45 ∷ drop (c.in-Some.at + 1) c.args.text.now) number.1,
        ap secret_of_text (sym (take_rest c.args.text.now (c.in-Some.at + 1))) ∙ sym c.of_text-2.ensures.value ∙ c.in-Some-of_text-2.is,
      ),
    )
