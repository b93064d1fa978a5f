use Rattle.pawn_base.proofs.ListLemmas.{◌&◌}
use Rattle.pawn_csv.proofs.Basics.{◌∙◌}
use Rattle.pawn_csv.proofs.RowLemmas.{columns_are, named, spelled_at}
use Rattle.pawn_csv.proofs.spelling.with_opening.Goals as goal

pub returns-in_err-number : goal.returns-in_err-number
returns-in_err-number c = record {
  value = rw c.from_residual.ensures
      (λ columns fits is. c.in_err-number.ensures.value columns.number fits.number (spelled_at c.args.columns.now 1 is));
}

pub returns-in_err-taken : goal.returns-in_err-taken
returns-in_err-taken c = record {
  value = rw c.from_residual-in_err-taken.ensures
      (λ columns fits is. c.in_err-taken.ensures.value columns.taken fits.taken (spelled_at c.args.columns.now 6 is));
}

pub returns-in_err-version : goal.returns-in_err-version
returns-in_err-version c = record {
  value = rw c.from_residual-in_err-version.ensures
      (λ columns fits is. c.in_err-version.ensures.value columns.version fits.version (spelled_at c.args.columns.now 9 is));
}

pub returns-in_err-held : goal.returns-in_err-held
returns-in_err-held c = record {
  value = rw c.from_residual-in_err-held.ensures
      (λ columns fits is. c.in_err-held.ensures.value columns.held tt (spelled_at c.args.columns.now 10 is));
}

pub returns-in_err-last : goal.returns-in_err-last
returns-in_err-last c = record {
  value = rw c.from_residual-in_err-last.ensures
      (λ columns fits is. c.in_err-last.ensures.value columns.last fits.last (spelled_at c.args.columns.now 11 is));
}

pub returns-in_err-closing : goal.returns-in_err-closing
returns-in_err-closing c = record {
  value = rw c.from_residual-in_err-closing.ensures
      (λ columns fits is. c.in_err-closing.ensures.value columns.closing tt (spelled_at c.args.columns.now 12 is));
}

pub returns-in_err-closing_day : goal.returns-in_err-closing_day
returns-in_err-closing_day c = record {
  value = rw c.from_residual-in_err-closing_day.ensures
      (λ columns fits is. c.in_err-closing_day.ensures.value columns.closing_day fits.closing_day (spelled_at c.args.columns.now 13 is));
}

pub returns-in_err-amount : goal.returns-in_err-amount
returns-in_err-amount c = record {
  value = rw c.from_residual-in_err-amount.ensures
      (λ columns fits is. c.in_err-amount.ensures.value columns.amount fits.amount (spelled_at c.args.columns.now 14 is));
}

pub returns : goal.returns
returns c =
    let cols = c.args.columns.now in
    let o = c.requires.opening in
    record {
      value = (
        record {
          number = c.in_ok-number.ensures.value.0;
          opening = o.opening;
          reference = o.utf8.0;
          article = o.utf8.1;
          credit = o.credit;
          taken = c.in_ok-taken.ensures.value.0;
          version = c.in_ok-version.ensures.value.0;
          last = c.in_ok-last.ensures.value.0;
          closing_day = c.in_ok-closing_day.ensures.value.0;
          amount = c.in_ok-amount.ensures.value.0;
        },
        columns_are cols c.requires.wide (c.requires.letter & named cols 1 ∙ c.in_ok-number.ensures.value.1 & o.reference_is & o.article_is & o.kind_is
            & o.amount_is & named cols 6 ∙ c.in_ok-taken.ensures.value.1 & o.agreed_is & o.five_days_is & named cols 9 ∙ c.in_ok-version.ensures.value.1
            & named cols 10 ∙ c.in_ok-held.ensures.value.1 & named cols 11 ∙ c.in_ok-last.ensures.value.1
            & named cols 12 ∙ c.in_ok-closing.ensures.value.1 & named cols 13 ∙ c.in_ok-closing_day.ensures.value.1
            & named cols 14 ∙ c.in_ok-amount.ensures.value.1 & tt),
      );
    }
