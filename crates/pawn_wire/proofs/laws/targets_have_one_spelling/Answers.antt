use Rattle.pawn_wire.proofs.NamedLemmas.{number_said-is, number_said-some, number_said-leading_zero, day_said-is}
use Rattle.pawn_wire.proofs.NamedLemmas.{day_said-some}
use Rattle.pawn_wire.proofs.TargetFacts.{each_part, first_targets, second_targets, third_targets, fourth_targets}
use Rattle.pawn_wire.proofs.TargetFacts.{last_targets}
use Rattle.pawn_wire.specs.Common.{day_text}
use Rattle.pawn_wire.specs.Laws.{IsTargetFound}
use Rattle.pawn_wire.specs.Route.{table}
use Rattle.std.proofs.Common.{refl, drop}
use Rattle.pawn_wire.proofs.laws.targets_have_one_spelling.Goals as goal

pub returns-clause-numbers : goal.returns-clause-numbers
returns-clause-numbers c = record {
  said = λ n range. number_said-some n _ range refl;
  is = number_said-is;
  leading_zero = number_said-leading_zero;
}

pub returns-clause-days : goal.returns-clause-days
returns-clause-days c = record {
  said = λ day range. day_said-some day (day_text day) range refl;
  is = day_said-is;
}

pub returns-clause-targets : goal.returns-clause-targets
returns-clause-targets c = each_part IsTargetFound 4 table first_targets (each_part IsTargetFound 4 (drop 4 table) second_targets
    (each_part IsTargetFound 4 (drop 8 table) third_targets (each_part IsTargetFound 4 (drop 12 table) fourth_targets last_targets)))
