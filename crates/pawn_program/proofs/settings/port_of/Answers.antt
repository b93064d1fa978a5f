use Rattle.std.proofs.Common.{◌≡◌, ◌∙◌, sym, arith}
use Rattle.std.proofs.lemmas.Fmt.{decimal_injective}
use Rattle.pawn_program.proofs.settings.port_of.Goals as goal

pub returns-then-port-gt-LAST_PORT-clause-none : goal.returns-then-port-gt-LAST_PORT-clause-none
returns-then-port-gt-LAST_PORT-clause-none c = λ port says.
    let some = c.in-Some.ensures.some in
    let same : c.in-Some.number ≡ port = decimal_injective c.in-Some.number port (omega (arith, some.0)) (omega (arith, says.1)) (sym some.1 ∙ says.2) in
    omega (arith, same, says.1, c.get-port.ensures.value, c.if-port-gt-LAST_PORT.true)
