use Rattle.pawn_base.proofs.ListLemmas.{◌&◌}
use Rattle.pawn_csv.proofs.Basics.{◌∙◌, refl}
use Rattle.pawn_csv.proofs.RowLemmas.{blank_follow, blank_left, columns_are, named, no_terms, spelled_at}
use Rattle.pawn_csv.specs.Spelling.{texts_of}
use Rattle.pawn_csv.proofs.spelling.read_terms_row.Goals as goal

pub returns-in_err-version : goal.returns-in_err-version
returns-in_err-version c = record {
  value = rw c.from_residual.ensures (no_terms (texts_of c.args.columns.now) c.requires.letter
      (λ version rates fits is. c.in_err-version.ensures.value version fits.0 (spelled_at c.args.columns.now 1 is)));
}

pub returns-in_err-rate : goal.returns-in_err-rate
returns-in_err-rate c = record {
  value = rw c.from_residual-in_err-rate.ensures (no_terms (texts_of c.args.columns.now) c.requires.letter
      (λ version rates fits is. c.in_err-rate.ensures.value rates.rate fits.1 (spelled_at c.args.columns.now 2 is)));
}

pub returns-in_err-keep_before : goal.returns-in_err-keep_before
returns-in_err-keep_before c = record {
  value = rw c.from_residual-in_err-keep_before.ensures (no_terms (texts_of c.args.columns.now) c.requires.letter
      (λ version rates fits is. c.in_err-keep_before.ensures.value rates.keep_before fits.2 (spelled_at c.args.columns.now 3 is)));
}

pub returns-in_err-keep_after : goal.returns-in_err-keep_after
returns-in_err-keep_after c = record {
  value = rw c.from_residual-in_err-keep_after.ensures (no_terms (texts_of c.args.columns.now) c.requires.letter
      (λ version rates fits is. c.in_err-keep_after.ensures.value rates.keep_after fits.3 (spelled_at c.args.columns.now 4 is)));
}

pub returns-then-not-are_blank : goal.returns-then-not-are_blank
returns-then-not-are_blank c = record {
  value = no_terms (texts_of c.args.columns.now) c.requires.letter
      (λ version rates fits is. let blank = c.if-not-are_blank.ensures.answer.1 (blank_left c.args.columns.now 5 10 is refl) in cc);
}

pub returns : goal.returns
returns c =
    let cols = c.args.columns.now in
    record {
      value = (
        (c.in_ok-version.ensures.value.0, c.in_ok-rate.ensures.value.0, c.in_ok-keep_before.ensures.value.0, c.in_ok-keep_after.ensures.value.0),
        columns_are cols c.requires.wide (c.requires.letter & named cols 1 ∙ c.in_ok-version.ensures.value.1 & named cols 2 ∙ c.in_ok-rate.ensures.value.1
            & named cols 3 ∙ c.in_ok-keep_before.ensures.value.1 & named cols 4 ∙ c.in_ok-keep_after.ensures.value.1
            & blank_follow cols 5 10 c.requires.wide (c.if-not-are_blank.ensures.answer.0 refl)),
      );
    }
