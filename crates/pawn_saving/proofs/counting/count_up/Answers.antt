use Rattle.one_table.proofs.Parts.{inside_after_row, kept_by_row, open_by_row}
use Rattle.pawn_saving.proofs.Counter.{count_told, counts}
use Rattle.pawn_saving.proofs.Writing.{state}
use Rattle.pawn_tables.specs.Common.{HasCleanDisk, IsLent, State}
use Rattle.sqlite.specs.State.{Survives, KeepsCommit}
use Rattle.std.proofs.Common.{false, IsTrue}
use Rattle.pawn_saving.proofs.counting.count_up.Goals as goal

pub returns-in-Ok-get-clause-wrote : goal.returns-in-Ok-get-clause-wrote
returns-in-Ok-get-clause-wrote g c clean within listed counted limit noted fits st = let old = state g.S.Store c.args.tx.now.conn.now in
    let new = state g.S.Store c.query_row.new.self.conn.now in
    let it =
    counts c.args.by old new c.in-Ok.row listed counted limit st noted fits (rw (c.params-to_sql.ensures, c.in-Ok.is) at (c.query_row.ensures.row clean)) in
    count_told c.in-Ok-get.now _ c.in-Ok.row new.now listed limit c.in-Ok-get.ensures.ok.1 it.0 it.1

pub returns-in-Ok-get-clause-lent : goal.returns-in-Ok-get-clause-lent
returns-in-Ok-get-clause-lent g c = record {
  same_reference = search;
  leaves = record {
    kept = λ clean within. kept_by_row _ _ _ _ c.query_row.result within (c.query_row.ensures.row clean);
    opened = λ clean within ok. open_by_row _ _ _ _ c.in-Ok.row (rw c.in-Ok.is at (c.query_row.ensures.row clean));
    inside = λ clean within ok. rw c.in-Ok.is at (inside_after_row _ _ _ _ c.query_row.result within (c.query_row.ensures.row clean));
    survives = c.query_row.ensures.survives;
  };
}

-- an answer that is no count leaves the transaction to be rolled back
failed : (old new : State) → (HasCleanDisk new → IsTrue old.in_transaction → KeepsCommit old new) → Survives old new (λ _. ⊥) → IsLent old new false
failed old new kept survives =
    record { kept = kept; opened = λ clean within ok. absurd (let e = ok in cc); inside = λ clean within ok. absurd (let e = ok in cc); survives = survives }

pub returns-clause-lent : goal.returns-clause-lent
returns-clause-lent g c = record {
  same_reference = search;
  leaves = failed _ _ (λ clean within. kept_by_row _ _ _ _ c.query_row.result within (c.query_row.ensures.row clean)) c.query_row.ensures.survives;
}

pub returns-in-Err-clause-lent : goal.returns-in-Err-clause-lent
returns-in-Err-clause-lent g c = record {
  same_reference = search;
  leaves = failed _ _ (λ clean within. kept_by_row _ _ _ _ c.query_row.result within (c.query_row.ensures.row clean)) c.query_row.ensures.survives;
}
