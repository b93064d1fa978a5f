use Rattle.pawn_host.proofs.CrashLemmas.{goes_none}
use Rattle.pawn_host.proofs.ReadLemmas.{read_none, read_then, read_more, read_all}
use Rattle.pawn_host.proofs.SessionLemmas.{over, over_leaves, ended_limit, ended_dry, broken_write, ended_closed}
use Rattle.pawn_host.proofs.SessionLemmas.{goes_on, acted_next, starts, taken_none, taken_more, are_taken, open_then}
use Rattle.pawn_host.proofs.SessionLemmas.{given_by, left_behind}
use Rattle.pawn_host.specs.Common.{write_failed, written_bytes}
use Rattle.pawn_host.specs.Ends.{left_of, read_failed, reads}
use Rattle.pawn_host.specs.Finding.{StopsBy}
use Rattle.pawn_host.specs.Keeps.{host_by, service_keep, start_of}
use Rattle.pawn_host.specs.Unanswered.{unanswered}
use Rattle.std.proofs.Common.{ℕ, arith, refl, ap, subst, Bool, Ok, Err, ◌∙◌, take, ◌+◌}
use Rattle.pawn_host.proofs.service.Service.answer_all.Goals as goal

pub loop-acted-init : goal.loop-acted-init
loop-acted-init g c = record {
  fine = c.requires.fine;
  readable = c.args.reader.now.fresh c.requires.fresh;
  can = c.requires.can;
  taken = taken_none _ _;
  fetched = read_none _ _ _ c.requires.fresh c.new-buffer.ensures.nothing;
  room = omega arith;
  stays = record {
    on = record { was_honest = λ honest. honest; was_usable = λ honest usable. usable; stays = λ steady. steady; whole = λ honest whole. whole };
    operator = refl;
  };
  so_far = λ honest h sound at. starts _ (goes_none g.K.Keep.keeping (service_keep c.args.self.now) h at sound) c.new-buffer.ensures.nothing;
}

pub returns-in-Err : goal.returns-in-Err
returns-in-Err g c =
    let readable = subst (λ (b : Bool). StopsBy (Err c.in-Err.rest) b (read_failed c.next_request.new.reader) (reads c.next_request.new.reader))
    c.loop-acted.invariant.readable c.in-Err.ensures.stops in
    let leaves = over_leaves g.I.Iterator.next_gives c.loop-acted.stamps c.loop-acted.acted c.loop-acted.sent (reads c.next_request.new.reader) _ _ (read_failed
    c.next_request.new.reader) (write_failed c.finish.new.writer) c.in-Err.rest c.finish.result c.loop-acted-test.true readable c.finish.ensures.over in
    record {
      stays = c.loop-acted.invariant.stays;
      session = λ honest h sound at. over {given = given_by g.K.Keep.keeping c.args.self.now h c.args.stamps.now (left_of g.R.Read.remaining c.args.reader.now)
          (written_bytes g.W.Write.contents c.args.writer.now)} _ _ _ _ _ c.in-Err.rest _
          (c.loop-acted.invariant.so_far honest h sound at) c.loop-acted-test.true c.in-Err.ensures.found c.in-Err.ensures.stops c.finish.ensures.over;
      stamps = are_taken _ _ c.loop-acted.invariant.taken leaves.count leaves.left;
      reads = read_then (Err c.in-Err.rest) _ _ _ _ _ c.loop-acted.acted _ _ c.loop-acted.invariant.fetched c.loop-acted-test.true c.in-Err.ensures.fetched;
      room = leaves.room;
      whole = leaves.whole;
      cause = leaves.cause;
    }

pub returns-in_default : goal.returns-in_default
returns-in_default g c = record {
  stays = c.loop-acted.invariant.stays;
  session = λ honest h sound at. ended_dry {given = given_by g.K.Keep.keeping c.args.self.now h c.args.stamps.now (left_of g.R.Read.remaining c.args.reader.now)
      (written_bytes g.W.Write.contents c.args.writer.now)} c.in-Ok.head
      (c.loop-acted.invariant.so_far honest h sound at) c.loop-acted-test.true c.in_default.ensures.steps c.in-Ok.ensures.found;
  stamps = are_taken _ _ c.loop-acted.invariant.taken refl c.in_default.ensures.steps;
  reads = read_then (Ok c.in-Ok.head) _ _ _ _ _ c.loop-acted.acted _ _ c.loop-acted.invariant.fetched c.loop-acted-test.true c.in-Ok.ensures.fetched;
  room = c.loop-acted-test.true;
  whole = (c.in-Ok.ensures.stops ∙ c.loop-acted.invariant.readable, c.loop-acted.invariant.fine);
  cause = tt;
}

pub returns-then-count-text : goal.returns-then-count-text
returns-then-count-text g c = record {
  stays = open_then c.loop-acted.invariant.stays c.answer_one-answer.ensures.stays;
  session = λ honest h sound at.
      let so = c.loop-acted.invariant.so_far (c.answer_one-answer.ensures.stays.on.was_honest honest) h sound at in
      let mid = host_by (start_of g.K.Keep.keeping c.args.self.now h) so.items in
      let acted = acted_next c.args.self.now _ h so.items c.in-Some.stamp _ (unanswered c.next_request.new.buffer) _ c.answer_slice-text.result.now _
      (c.in-Ok.head.len + c.in-Ok.head.body) _ c.loop-acted.invariant.stays
      (c.answer_one-answer.ensures.acted honest mid so.served.goes.sound so.served.goes.stands_for) so.served.goes.crash c.as_slice.ensures.value
      c.request_len-needed.ensures.answer c.answer_slice-text.ensures.bytes in
      broken_write {given = given_by g.K.Keep.keeping c.args.self.now h c.args.stamps.now (left_of g.R.Read.remaining c.args.reader.now)
      (written_bytes g.W.Write.contents c.args.writer.now)} _ _ _ _ c.in-Some.stamp c.in-Ok.head c.send-count.result c.answer_slice-text.result.now
      (unanswered c.next_request.new.buffer) so c.loop-acted-test.true c.in-Some.ensures.steps acted c.in-Ok.ensures.found c.in-Ok.ensures.kept
      c.in-Ok.ensures.buffered c.if-count-text.true c.send-count.ensures.bytes;
  stamps = are_taken _ _ (taken_more _ c.in-Some.stamp c.loop-acted.invariant.taken c.in-Some.ensures.steps) refl refl;
  reads = read_then (Ok c.in-Ok.head) _ _ _ _ _ c.loop-acted.acted _ _ c.loop-acted.invariant.fetched c.loop-acted-test.true c.in-Ok.ensures.fetched;
  room = omega (arith, c.loop-acted-test.true);
  whole = tt;
  cause = c.send-count.ensures.failed c.if-count-text.true;
}

pub returns-then-head : goal.returns-then-head
returns-then-head g c = record {
  stays = open_then c.loop-acted.invariant.stays c.answer_one-answer.ensures.stays;
  session = λ honest h sound at.
      let so = c.loop-acted.invariant.so_far (c.answer_one-answer.ensures.stays.on.was_honest honest) h sound at in
      let mid = host_by (start_of g.K.Keep.keeping c.args.self.now h) so.items in
      let acted = acted_next c.args.self.now _ h so.items c.in-Some.stamp _ (unanswered c.next_request.new.buffer) _ c.answer_slice-text.result.now _
      (c.in-Ok.head.len + c.in-Ok.head.body) _ c.loop-acted.invariant.stays
      (c.answer_one-answer.ensures.acted honest mid so.served.goes.sound so.served.goes.stands_for) so.served.goes.crash c.as_slice.ensures.value
      c.request_len-needed.ensures.answer c.answer_slice-text.ensures.bytes in
      ended_closed {given = given_by g.K.Keep.keeping c.args.self.now h c.args.stamps.now (left_of g.R.Read.remaining c.args.reader.now)
      (written_bytes g.W.Write.contents c.args.writer.now)} _ _ _ _ c.in-Some.stamp c.in-Ok.head c.send-count.result c.answer_slice-text.result.now
      (unanswered c.next_request.new.buffer) so c.loop-acted-test.true c.in-Some.ensures.steps acted c.in-Ok.ensures.found c.in-Ok.ensures.kept
      c.in-Ok.ensures.buffered (omega (arith, c.send-count.ensures.bound, c.if-count-text.false)) c.send-count.ensures.bytes c.if-head.true;
  stamps = are_taken _ _ (taken_more _ c.in-Some.stamp c.loop-acted.invariant.taken c.in-Some.ensures.steps) refl refl;
  reads = read_then (Ok c.in-Ok.head) _ _ _ _ _ c.loop-acted.acted _ _ c.loop-acted.invariant.fetched c.loop-acted-test.true c.in-Ok.ensures.fetched;
  room = omega (arith, c.loop-acted-test.true);
  whole =
      (c.in-Ok.ensures.stops ∙ c.loop-acted.invariant.readable, c.send-count.ensures.done (omega (arith, c.send-count.ensures.bound, c.if-count-text.false)));
  cause = tt;
}

pub loop-acted-preserved : goal.loop-acted-preserved
loop-acted-preserved g c = record {
  fine = c.send-count.ensures.done (omega (arith, c.send-count.ensures.bound, c.if-count-text.false));
  readable = c.in-Ok.ensures.stops ∙ c.loop-acted.invariant.readable;
  taken = taken_more _ c.in-Some.stamp c.loop-acted.invariant.taken c.in-Some.ensures.steps;
  fetched = read_more c.in-Ok.head _ _ _ _ _ c.loop-acted.acted _ (unanswered c.next_request.new.buffer) _ c.loop-acted.invariant.fetched c.loop-acted-test.true
      c.in-Ok.ensures.fetched c.in-Ok.ensures.head c.in-Ok.ensures.buffered c.if-head.false (left_behind (unanswered c.answer.new.self) (unanswered
      c.next_request.new.buffer) c.request_len-needed.result (c.in-Ok.head.len + c.in-Ok.head.body) c.answer.ensures.rest c.request_len-needed.ensures.answer);
  can = c.in-Some.ensures.goes.keeps;
  room = omega (arith, c.loop-acted.invariant.room);
  stays = open_then c.loop-acted.invariant.stays c.answer_one-answer.ensures.stays;
  so_far = λ honest h sound at.
      let so = c.loop-acted.invariant.so_far (c.answer_one-answer.ensures.stays.on.was_honest honest) h sound at in
      let mid = host_by (start_of g.K.Keep.keeping c.args.self.now h) so.items in
      let acted = acted_next c.args.self.now _ h so.items c.in-Some.stamp _ (unanswered c.next_request.new.buffer) _ c.answer_slice-text.result.now _
      (c.in-Ok.head.len + c.in-Ok.head.body) _ c.loop-acted.invariant.stays
      (c.answer_one-answer.ensures.acted honest mid so.served.goes.sound so.served.goes.stands_for) so.served.goes.crash c.as_slice.ensures.value
      c.request_len-needed.ensures.answer c.answer_slice-text.ensures.bytes in
      goes_on {given = given_by g.K.Keep.keeping c.args.self.now h c.args.stamps.now (left_of g.R.Read.remaining c.args.reader.now)
      (written_bytes g.W.Write.contents c.args.writer.now)} _ _ _ _ c.in-Some.stamp c.in-Ok.head c.send-count.result c.answer_slice-text.result.now
      (unanswered c.next_request.new.buffer) _ so c.loop-acted-test.true c.in-Some.ensures.steps acted c.in-Ok.ensures.found c.in-Ok.ensures.kept
      c.in-Ok.ensures.buffered (omega (arith, c.send-count.ensures.bound, c.if-count-text.false)) c.send-count.ensures.bytes c.if-head.false
      (left_behind (unanswered c.answer.new.self) (unanswered c.next_request.new.buffer) c.request_len-needed.result
      (c.in-Ok.head.len + c.in-Ok.head.body) c.answer.ensures.rest c.request_len-needed.ensures.answer);
}

pub returns : goal.returns
returns g c = record {
  stays = c.loop-acted.invariant.stays;
  session = λ honest h sound at. ended_limit {given = given_by g.K.Keep.keeping c.args.self.now h c.args.stamps.now (left_of g.R.Read.remaining
      c.args.reader.now) (written_bytes g.W.Write.contents c.args.writer.now)} (c.loop-acted.invariant.so_far honest h sound at) (omega arith);
  stamps = are_taken _ _ c.loop-acted.invariant.taken (omega arith) refl;
  reads = read_all _ _ _ _ _ c.loop-acted.invariant.fetched;
  room = refl;
  whole = (c.loop-acted.invariant.readable, c.loop-acted.invariant.fine);
  cause = tt;
}
