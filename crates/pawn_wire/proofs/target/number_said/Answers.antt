use Rattle.pawn_wire.proofs.NamedLemmas.{number_said-of}
use Rattle.pawn_wire.specs.Named.{number_said}
use Rattle.std.proofs.Common.{ap, ◌∙◌}
use Rattle.pawn_wire.proofs.target.number_said.Goals as goal

pub returns : goal.returns
returns c = record {
  value = number_said-of c.of_text.result c.as_bytes.result.now c.of_text.ensures.some c.of_text.ensures.none ∙ ap number_said c.as_bytes.ensures.value;
}
