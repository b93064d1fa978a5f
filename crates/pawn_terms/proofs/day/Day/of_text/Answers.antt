use Rattle.pawn_terms.proofs.TextLemmas.{civil_of-request, day_text-read, civil_of-read}
use Rattle.pawn_terms.specs.Calendar.{civil_of}
use Rattle.pawn_terms.proofs.day.Day.of_text.Goals as goal

pub returns-in-Some-clause-succeeds : goal.returns-in-Some-clause-succeeds
returns-in-Some-clause-succeeds c = (
  day_text-read c.from_ymd.result c.args.text.now _ c.in-Some.ensures.some c.from_ymd.ensures.value c.from_ymd.ensures.in_range,
  (λ s. c.from_ymd.ensures.succeeds.1 (civil_of-read s.0 c.args.text.now _ s.1 s.2 c.in-Some.ensures.some c.in-Some.ensures.writable)),
)

pub returns-in-None-clause-succeeds : goal.returns-in-None-clause-succeeds
returns-in-None-clause-succeeds c =
    ((λ h. cc), (λ s. absurd (c.in-None.ensures.none (civil_of s.0) (civil_of-request s.0 s.1).1 s.2)))
