use Rattle.pawn_program.proofs.StampLemmas.{taken_in_order, taken_are_fewer}
use Rattle.std.proofs.Common.{refl, arith}
use Rattle.pawn_program.proofs.stamps.Stamps.new.Goals as goal

pub returns-clause-stamps : goal.returns-clause-stamps
returns-clause-stamps c = record {
  taken = λ xs to run. taken_in_order c.args.day _ xs _ to refl refl run;
  few = λ xs to run. omega (arith, taken_are_fewer xs _ to run);
  last = λ xs to end run none. omega (arith, taken_are_fewer xs _ to run, none.0);
}
