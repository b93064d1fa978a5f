use Rattle.one_table.proofs.Parts.{kept_inside}
use Rattle.one_table.proofs.statements.run.Goals as goal

pub returns-in-Ok-clause-ran : goal.returns-in-Ok-clause-ran
returns-in-Ok-clause-ran g c clean within = (c.in-Ok.field-0, (c.in-Ok.ensures.runs clean within).0)

pub returns-in-Ok-clause-lent : goal.returns-in-Ok-clause-lent
returns-in-Ok-clause-lent g c = record {
  same_reference = search;
  leaves = record {
    kept = λ clean within. kept_inside _ _ _ _ c.execute.result (c.execute.ensures.runs clean within);
    opened = λ clean within ok. (c.in-Ok.ensures.runs clean within).1.was_open;
    inside = λ clean within ok. (c.in-Ok.ensures.runs clean within).1.mode;
    survives = c.execute.ensures.survives;
  };
}

pub returns-in-Err-clause-lent : goal.returns-in-Err-clause-lent
returns-in-Err-clause-lent g c = record {
  same_reference = search;
  leaves = record {
    kept = λ clean within. kept_inside _ _ _ _ c.execute.result (c.execute.ensures.runs clean within);
    opened = λ clean within ok. absurd (let e = ok in cc);
    inside = λ clean within ok. absurd (let e = ok in cc);
    survives = c.execute.ensures.survives;
  };
}
