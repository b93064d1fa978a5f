use Rattle.pawn_pledge.proofs.NumberLemmas.{not_same}
use Rattle.std.proofs.Common.{◌≡◌, ◌∙◌, sym, ap, arith, decimal}
use Rattle.std.proofs.lemmas.Bool.{false≢true}
use Rattle.std.proofs.lemmas.Fmt.{IsAscii-decimal, parse-decimal}
use Rattle.std.proofs.lemmas.Str.{IsUtf8-from_ascii}
use Rattle.pawn_pledge.proofs.number.Number.of_text.Goals as goal

pub returns-in_default-clause-none : goal.returns-in_default-clause-none
returns-in_default-clause-none c = λ n range is. c.in_default.ensures.cases.0 (rw is (IsUtf8-from_ascii _ (IsAscii-decimal n (omega (arith, range)))))

pub returns-in_default-parse-clause-none : goal.returns-in_default-parse-clause-none
returns-in_default-parse-clause-none c = λ n range is. c.in_default-parse.not-Ok n
    (parse-decimal 64 n c.in-Ok.digits.now c.parse.result (omega (arith, range)) (omega (arith, range)) (c.in-Ok.ensures.cases.0 ∙ is) c.parse.ensures.value.0)

pub returns-in_default-new-clause-none : goal.returns-in_default-new-clause-none
returns-in_default-new-clause-none c = λ n range is.
    let r =
    parse-decimal 64 n c.in-Ok.digits.now c.parse.result (omega (arith, range)) (omega (arith, range)) (c.in-Ok.ensures.cases.0 ∙ is) c.parse.ensures.value.0 in
    let same : c.in-Ok-parse.parsed ≡ n = let e = sym c.in-Ok-parse.is ∙ r in cc in
    false≢true (c.in_default-new.ensures.succeeds.1 (omega (arith, range, same), omega (arith, range, same)))

pub returns-else-eq-clause-none : goal.returns-else-eq-clause-none
returns-else-eq-clause-none c = λ n range is.
    let r =
    parse-decimal 64 n c.in-Ok.digits.now c.parse.result (omega (arith, range)) (omega (arith, range)) (c.in-Ok.ensures.cases.0 ∙ is) c.parse.ensures.value.0 in
    let same : c.in-Ok-parse.parsed ≡ n = let e = sym c.in-Ok-parse.is ∙ r in cc in
    let differ = sym c.if-eq.false ∙ c.eq.ensures in
    not_same c.as_bytes.result.now c.args.text.now (c.as_bytes.ensures.value ∙ c.format.ensures.text ∙ ap decimal same ∙ sym is) differ
