use Rattle.pawn_csv.proofs.Basics.{◌≡◌, ◌∙◌, sym, ap, arith, decimal, nat_tests}
use Rattle.std.proofs.lemmas.Fmt.{parse-decimal, IsAscii-decimal}
use Rattle.std.proofs.lemmas.Str.{IsUtf8-from_ascii}
use Rattle.std.specs.Cmp.Lexicographic.{other_text}
use Rattle.pawn_csv.proofs.columns.read_number.Goals as goal

pub returns-in_default : goal.returns-in_default
returns-in_default c = record { value = λ n small is. c.in_default.ensures.cases.0 (rw is (IsUtf8-from_ascii _ (IsAscii-decimal n (omega (arith, small))))) }

pub returns-in_default-parse : goal.returns-in_default-parse
returns-in_default-parse c = record {
  value = λ n small is. c.in_default-parse.not-Ok n
      (parse-decimal 64 n c.in-Ok.text.now c.parse.result (omega (arith, small)) (omega (arith, small)) (c.in-Ok.ensures.cases.0 ∙ is) c.parse.ensures.value.0);
}

pub returns-then-number-ge-NUMBERS_END : goal.returns-then-number-ge-NUMBERS_END
returns-then-number-ge-NUMBERS_END c = record {
  value = λ n small is.
      let r =
      parse-decimal 64 n c.in-Ok.text.now c.parse.result (omega (arith, small)) (omega (arith, small)) (c.in-Ok.ensures.cases.0 ∙ is) c.parse.ensures.value.0 in
      let same : c.in-Ok-parse.number ≡ n = let e = sym c.in-Ok-parse.is ∙ r in cc in
      let test = c.if-number-ge-NUMBERS_END.true in
      grind (arith, nat_tests, small, same, test);
}

pub returns-else-eq : goal.returns-else-eq
returns-else-eq c = record {
  value = λ n small is.
      let r =
      parse-decimal 64 n c.in-Ok.text.now c.parse.result (omega (arith, small)) (omega (arith, small)) (c.in-Ok.ensures.cases.0 ∙ is) c.parse.ensures.value.0 in
      let same : c.in-Ok-parse.number ≡ n = let e = sym c.in-Ok-parse.is ∙ r in cc in
      other_text c.as_bytes.result.now c.args.field.now (sym c.if-eq.false ∙ c.eq.ensures)
      (c.as_bytes.ensures.value ∙ c.format.ensures.text ∙ ap decimal same ∙ sym is);
}
