use Rattle.pawn_pledge.specs.Common.{Each}
use Rattle.pawn_pledge.specs.Replayable.{IsLaterIssue}
use Rattle.pawn_pledge.specs.declared.record.Issued.{Issued}
use Rattle.std.proofs.Common.{drop}
use Rattle.pawn_pledge.proofs.parts.are_later_issues.Given as goal

abbrev pub invariant-loop-i : goal.invariant-loop-i
invariant-loop-i l = record {
  down : Each {X = Issued} (λ j. IsLaterIssue l.credit j.sort) l.issued → Each {X = Issued} (λ j. IsLaterIssue l.credit j.sort) (drop l.i-index l.issued);
  back : Each {X = Issued} (λ j. IsLaterIssue l.credit j.sort) (drop l.i-index l.issued) → Each {X = Issued} (λ j. IsLaterIssue l.credit j.sort) l.issued;
}
