use Rattle.pawn_base.proofs.ListLemmas.{◌&◌}
use Rattle.pawn_csv.proofs.Basics.{◌∙◌, refl}
use Rattle.pawn_csv.proofs.RowLemmas.{blank_follow, blank_left, columns_are, named, no_entry, spelled_at}
use Rattle.pawn_csv.specs.Spelling.{texts_of}
use Rattle.pawn_csv.proofs.spelling.read_entry_row.Goals as goal

pub returns-in_err-number : goal.returns-in_err-number
returns-in_err-number c = record {
  value = rw c.from_residual.ensures (no_entry (texts_of c.args.columns.now) c.requires.letter
      (λ number entry fits is. c.in_err-number.ensures.value number fits.0 (spelled_at c.args.columns.now 1 is)));
}

pub returns-in_err-seq : goal.returns-in_err-seq
returns-in_err-seq c = record {
  value = rw c.from_residual-in_err-seq.ensures (no_entry (texts_of c.args.columns.now) c.requires.letter
      (λ number entry fits is. c.in_err-seq.ensures.value entry.seq fits.1 (spelled_at c.args.columns.now 2 is)));
}

pub returns-in_err-day : goal.returns-in_err-day
returns-in_err-day c = record {
  value = rw c.from_residual-in_err-day.ensures (no_entry (texts_of c.args.columns.now) c.requires.letter
      (λ number entry fits is. c.in_err-day.ensures.value entry.day fits.2 (spelled_at c.args.columns.now 3 is)));
}

pub returns-in_err-sort : goal.returns-in_err-sort
returns-in_err-sort c = record {
  value = rw c.from_residual-in_err-sort.ensures (no_entry (texts_of c.args.columns.now) c.requires.letter
      (λ number entry fits is. c.in_err-sort.ensures.value entry.sort tt (spelled_at c.args.columns.now 4 is)));
}

pub returns-in_err-pence : goal.returns-in_err-pence
returns-in_err-pence c = record {
  value = rw c.from_residual-in_err-pence.ensures (no_entry (texts_of c.args.columns.now) c.requires.letter
      (λ number entry fits is. c.in_err-pence.ensures.value entry.pence fits.3 (spelled_at c.args.columns.now 5 is)));
}

pub returns-then-not-are_blank : goal.returns-then-not-are_blank
returns-then-not-are_blank c = record {
  value = no_entry (texts_of c.args.columns.now) c.requires.letter
      (λ number entry fits is. let blank = c.if-not-are_blank.ensures.answer.1 (blank_left c.args.columns.now 6 9 is refl) in cc);
}

pub returns : goal.returns
returns c =
    let cols = c.args.columns.now in
    record {
      value = (
        (c.in_ok-number.ensures.value.0, c.in_ok-seq.ensures.value.0, c.in_ok-day.ensures.value.0, c.in_ok-pence.ensures.value.0),
        columns_are cols c.requires.wide (c.requires.letter & named cols 1 ∙ c.in_ok-number.ensures.value.1 & named cols 2 ∙ c.in_ok-seq.ensures.value.1
            & named cols 3 ∙ c.in_ok-day.ensures.value.1 & named cols 4 ∙ c.in_ok-sort.ensures.value.1
            & named cols 5 ∙ c.in_ok-pence.ensures.value.1
            & blank_follow cols 6 9 c.requires.wide (c.if-not-are_blank.ensures.answer.0 refl)),
      );
    }
