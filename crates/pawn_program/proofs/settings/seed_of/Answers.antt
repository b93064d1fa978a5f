use Rattle.pawn_program.proofs.HexLemmas.{after_bytes, byte_more, no_byte, all_bytes}
use Rattle.pawn_program.specs.Settings.{hex_bytes, seed_of}
use Rattle.std.proofs.Common.{◌≡◌, ℕ, List, [], length, Option, Some, None, refl, sym, ◌∙◌, arith}
use Rattle.std.proofs.lemmas.Grind.{common_steps}
use Rattle.pawn_program.proofs.settings.seed_of.Goals as goal

-- a text of 64 bytes is read
of_64 : (text : List ℕ) → length text ≡ 64 → seed_of text ≡ hex_bytes text
of_64 text e = rw e refl

no_front : (rest : Option (List ℕ)) → rest ≡ after_bytes [] rest
no_front None = refl
no_front (Some bytes) = refl

pub loop-i-init : goal.loop-i-init
loop-i-init c = (refl, no_front (hex_bytes c.args.text.now))

pub returns-in_err-seed : goal.returns-in_err-seed
returns-in_err-seed c =
    let none : hex_bytes c.args.text.now ≡ None =
    no_byte c.args.text.now c.loop-i.i (omega (arith, c.if-text-ne64.false, c.loop-i-test.true)) c.loop-i.seed c.loop-i.invariant.1
    (sym c.hex_byte.ensures.value ∙ c.in_err-seed.was) in
    record { value = c.from_residual.ensures ∙ sym (of_64 c.args.text.now c.if-text-ne64.false ∙ none) }

pub loop-i-preserved : goal.loop-i-preserved
loop-i-preserved c = (
  grind (arith, common_steps, c.loop-i.invariant.0),
  byte_more c.args.text.now c.loop-i.i (omega (arith, c.if-text-ne64.false, c.loop-i-test.true)) c.loop-i.seed c.in_ok-seed.field-0
      (omega (arith, c.loop-i.invariant.0, c.loop-i-test.true)) c.loop-i.invariant.1 (sym c.hex_byte.ensures.value ∙ c.in_ok-seed.was),
)

pub returns : goal.returns
returns c =
    let end : c.loop-i.i ≡ 32 = omega (arith, c.loop-i-test.false, c.loop-i.auto.i-end) in
    record {
      value = sym (of_64 c.args.text.now c.if-text-ne64.false ∙ all_bytes c.args.text.now c.loop-i.seed c.loop-i.i (omega (arith, end, c.if-text-ne64.false))
          (omega (arith, end, c.loop-i.invariant.0)) c.loop-i.invariant.1);
    }
