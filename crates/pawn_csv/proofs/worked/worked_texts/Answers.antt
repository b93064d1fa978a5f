use Rattle.pawn_csv.proofs.Basics.{refl}
use Rattle.pawn_csv.specs.Common.{escaped, fields_text, is_blank}
use Rattle.pawn_terms.specs.Calendar.{civil_after, days_of_months, days_of_years}
use Rattle.std.specs.Fmt.{digits}
use Rattle.uuid.specs.Text.{by_index}
use Rattle.pawn_csv.proofs.worked.worked_texts.Goals as goal

pub returns : goal.returns
unfolding civil_after days_of_years days_of_months digits escaped fields_text is_blank by_index
returns c = record {
  texts = record {
    numbers = refl;
    terms = refl;
    extension = refl;
    pledge = refl;
    example = refl;
    quoted = refl;
    declared = refl;
    unbooked = refl;
    whole = refl;
    extended = refl;
    first_version = refl;
    empty = refl;
    wanting = refl;
    counts = refl;
    twice = refl;
    gap = refl;
    more = refl;
  };
}
