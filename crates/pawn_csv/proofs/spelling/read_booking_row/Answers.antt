use Rattle.pawn_base.proofs.ListLemmas.{◌&◌}
use Rattle.pawn_csv.proofs.Basics.{◌∙◌, refl}
use Rattle.pawn_csv.proofs.RowLemmas.{blank_follow, blank_left, columns_are, named, no_booking, spelled_at}
use Rattle.pawn_csv.specs.Spelling.{texts_of}
use Rattle.pawn_csv.proofs.spelling.read_booking_row.Goals as goal

pub returns-in_err-number : goal.returns-in_err-number
returns-in_err-number c = record {
  value = rw c.from_residual.ensures (no_booking (texts_of c.args.columns.now) c.requires.letter
      (λ number b fits is. c.in_err-number.ensures.value number fits.0 (spelled_at c.args.columns.now 1 is)));
}

pub returns-in_err-day : goal.returns-in_err-day
returns-in_err-day c = record {
  value = rw c.from_residual-in_err-day.ensures (no_booking (texts_of c.args.columns.now) c.requires.letter
      (λ number b fits is. c.in_err-day.ensures.value b.day fits.1 (spelled_at c.args.columns.now 2 is)));
}

pub returns-in_err-window : goal.returns-in_err-window
returns-in_err-window c = record {
  value = rw c.from_residual-in_err-window.ensures (no_booking (texts_of c.args.columns.now) c.requires.letter
      (λ number b fits is. c.in_err-window.ensures.value b.window fits.2 (spelled_at c.args.columns.now 3 is)));
}

pub returns-in_err-state : goal.returns-in_err-state
returns-in_err-state c = record {
  value = rw c.from_residual-in_err-state.ensures (no_booking (texts_of c.args.columns.now) c.requires.letter
      (λ number b fits is. c.in_err-state.ensures.value b.state tt (spelled_at c.args.columns.now 4 is)));
}

pub returns-then-not-are_blank : goal.returns-then-not-are_blank
returns-then-not-are_blank c = record {
  value = no_booking (texts_of c.args.columns.now) c.requires.letter
      (λ number b fits is. let blank = c.if-not-are_blank.ensures.answer.1 (blank_left c.args.columns.now 5 10 is refl) in cc);
}

pub returns : goal.returns
returns c =
    let cols = c.args.columns.now in
    record {
      value = (
        (c.in_ok-number.ensures.value.0, c.in_ok-day.ensures.value.0, c.in_ok-window.ensures.value.0),
        columns_are cols c.requires.wide (c.requires.letter & named cols 1 ∙ c.in_ok-number.ensures.value.1 & named cols 2 ∙ c.in_ok-day.ensures.value.1
            & named cols 3 ∙ c.in_ok-window.ensures.value.1 & named cols 4 ∙ c.in_ok-state.ensures.value.1
            & blank_follow cols 5 10 c.requires.wide (c.if-not-are_blank.ensures.answer.0 refl)),
      );
    }
