use Rattle.one_table.proofs.Parts.{shown_kept, shown_open, kept_by_failing}
use Rattle.one_table.proofs.statements.ask.Goals as goal

pub returns-in-Ok-clause-lent : goal.returns-in-Ok-clause-lent
returns-in-Ok-clause-lent g c = record {
  same_reference = search;
  leaves = record {
    kept = λ clean within. (shown_kept _ _ _ _ c.in-Ok.rows.items within (c.in-Ok.ensures.ok clean)).0;
    opened = λ clean within ok. shown_open _ _ _ _ _ (c.in-Ok.ensures.ok clean);
    inside = λ clean within ok. (shown_kept _ _ _ _ c.in-Ok.rows.items within (c.in-Ok.ensures.ok clean)).1;
    survives = c.in-Ok.ensures.survives;
  };
}

pub returns-in-Err-clause-lent : goal.returns-in-Err-clause-lent
returns-in-Err-clause-lent g c = record {
  same_reference = search;
  leaves = record {
    kept = λ clean within. kept_by_failing _ _ _ _ _ (c.in-Err.ensures.err clean);
    opened = λ clean within ok. absurd (let e = ok in cc);
    inside = λ clean within ok. absurd (let e = ok in cc);
    survives = c.in-Err.ensures.survives;
  };
}
