use Rattle.pawn_host.proofs.HeadlineLemmas.{run_of_slots}
use Rattle.pawn_host.proofs.RunMore.{run_turn}
use Rattle.pawn_host.proofs.SessionLemmas.{acted_at, open_then}
use Rattle.pawn_host.specs.Keeps.{start_of, start_after, answer_bytes, host_by}
use Rattle.std.proofs.Common.{◌∙◌, ap, arith, ◌+◌, ℕ, refl, take_all}
use Rattle.pawn_host.proofs.service.Service.run.Goals as goal

pub loop-item-preserved : goal.loop-item-preserved
loop-item-preserved g c = record {
  len = c.push_reserved.ensures.len ∙ ap (λ (n : ℕ). n + 1) c.loop-item.invariant.len;
  room = c.push_reserved.ensures.capacity ∙ c.loop-item.invariant.room;
  stays = open_then c.loop-item.invariant.stays c.answer_one-answer.ensures.stays;
  run = λ honest h sound at.
      let before = c.loop-item.invariant.run (c.answer_one-answer.ensures.stays.on.was_honest honest) h sound at in
      let start = start_of g.K.Keep.keeping c.args.self.now h in
      let acted = c.answer_one-answer.ensures.acted honest (host_by start before.items) before.goes.sound before.goes.stands_for in
      run_turn start _ _ c.loop-item.item-index c.args.items.now c.item-item.result c.loop-item.answers.items _ c.answer_one-answer.result c.loop-item-test.true
      c.item-item.is c.push_reserved.ensures.items before (acted_at _
      (start_after start before.items) c.item-item.result.0 c.as_slice.result.now c.item-item.result.1.items _ (answer_bytes c.answer_one-answer.result) _ acted
      c.loop-item.invariant.stays.on.stays c.loop-item.invariant.stays.operator before.goes.crash c.as_slice.ensures.value refl);
}

pub returns-clause-headline : goal.returns-clause-headline
returns-clause-headline g c = λ honest h sound at.
    let run = c.loop-item.invariant.run honest h sound at in
    run_of_slots (start_of g.K.Keep.keeping c.args.self.now h) _ _ _
    (rw (take_all c.loop-item.item-index c.args.items.now (omega (arith, c.loop-item-test.false))) at run)
