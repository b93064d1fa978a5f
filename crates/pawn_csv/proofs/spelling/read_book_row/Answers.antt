use Rattle.pawn_base.proofs.ListLemmas.{◌&◌}
use Rattle.pawn_csv.proofs.Basics.{◌∙◌, refl}
use Rattle.pawn_csv.proofs.RowLemmas.{blank_follow, blank_left, columns_are, named, no_book, spelled_at}
use Rattle.pawn_csv.specs.Spelling.{texts_of}
use Rattle.pawn_csv.proofs.spelling.read_book_row.Goals as goal

pub returns-in_err-version : goal.returns-in_err-version
returns-in_err-version c = record {
  value = rw c.from_residual.ensures (no_book (texts_of c.args.columns.now) c.requires.letter
      (λ version terms pledges fits is. c.in_err-version.ensures.value version tt (spelled_at c.args.columns.now 1 is)));
}

pub returns-in_err-terms : goal.returns-in_err-terms
returns-in_err-terms c = record {
  value = rw c.from_residual-in_err-terms.ensures (no_book (texts_of c.args.columns.now) c.requires.letter
      (λ version terms pledges fits is. c.in_err-terms.ensures.value terms fits.0 (spelled_at c.args.columns.now 2 is)));
}

pub returns-in_err-pledges : goal.returns-in_err-pledges
returns-in_err-pledges c = record {
  value = rw c.from_residual-in_err-pledges.ensures (no_book (texts_of c.args.columns.now) c.requires.letter
      (λ version terms pledges fits is. c.in_err-pledges.ensures.value pledges fits.1 (spelled_at c.args.columns.now 3 is)));
}

pub returns-then-not-are_blank : goal.returns-then-not-are_blank
returns-then-not-are_blank c = record {
  value = no_book (texts_of c.args.columns.now) c.requires.letter
      (λ version terms pledges fits is. let blank = c.if-not-are_blank.ensures.answer.1 (blank_left c.args.columns.now 4 11 is refl) in cc);
}

pub returns : goal.returns
returns c =
    let cols = c.args.columns.now in
    record {
      value = (
        (c.in_ok-terms.ensures.value.0, c.in_ok-pledges.ensures.value.0),
        columns_are cols c.requires.wide (c.requires.letter & named cols 1 ∙ c.in_ok-version.ensures.value.1 & named cols 2 ∙ c.in_ok-terms.ensures.value.1
            & named cols 3 ∙ c.in_ok-pledges.ensures.value.1
            & blank_follow cols 4 11 c.requires.wide (c.if-not-are_blank.ensures.answer.0 refl)),
      );
    }
