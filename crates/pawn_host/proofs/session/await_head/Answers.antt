use Rattle.pawn_host.proofs.FindLemmas.{found_faulty, found_end, found_cut, kept_more, answers_at, empty_by_test}
use Rattle.pawn_host.proofs.FindLemmas.{full_by_test}
use Rattle.pawn_host.proofs.ReadLemmas.{partial_has_no_whole, fetched_more, fetched_last, fetched_nothing}
use Rattle.pawn_host.proofs.ReadLemmas.{fetched_other}
use Rattle.pawn_host.specs.Common.{Fault, Partial, prepend_known}
use Rattle.pawn_host.specs.Ends.{left_of}
use Rattle.pawn_host.specs.Unanswered.{unanswered}
use Rattle.pawn_host.specs.declared.session.Cause.TheVariants.{Read}
use Rattle.pawn_host.specs.declared.session.Rest.TheVariants.{AtEnd, CutOff, NoMemory, Stopped}
use Rattle.std.proofs.Common.{ap, length, sym, ◌∙◌, ◌≡◌, []}
use Rattle.pawn_host.proofs.session.await_head.Goals as goal

pub loop-head-preserved : goal.loop-head-preserved
loop-head-preserved g c =
    let f = c.in-More.ensures.read in
    let none = partial_has_no_whole (unanswered c.loop-head.buffer) (answers_at _ _ Partial c.as_slice.ensures.value c.in-Partial.ensures.head) in
    record {
      kept = kept_more _ _ _ _ _ f.0 c.loop-head.invariant.kept f.2 f.3;
      fine = c.in-More.ensures.by.2 ∙ c.loop-head.invariant.fine;
      fetched = fetched_more _ (unanswered c.loop-head.buffer) _ f.0 _ _ _ _ _ _ c.loop-head.invariant.fetched none c.in-More.ensures.by.1 f.3 f.2;
    }

pub returns-in-Fault-clause-rest : goal.returns-in-Fault-clause-rest
returns-in-Fault-clause-rest g c = found_faulty (prepend_known (unanswered c.args.buffer.now) (left_of g.R.Read.remaining c.args.reader.now))
    (left_of g.R.Read.remaining c.loop-head.reader) (unanswered c.loop-head.buffer) c.in-Fault.fault c.loop-head.invariant.kept
    (answers_at _ _ (Fault c.in-Fault.fault) c.as_slice.ensures.value c.in-Fault.ensures.head)

pub returns-then-is_empty-clause-rest : goal.returns-then-is_empty-clause-rest
returns-then-is_empty-clause-rest g c =
    let f = c.in-Done.ensures.read in
    let none_left : (unanswered c.loop-head.buffer) ≡ [] =
    empty_by_test _ _ _ f.0 (ap length c.as_slice-in-Done.ensures.value) (sym c.is_empty.ensures ∙ c.if-is_empty.true) in
    found_end (prepend_known (unanswered c.args.buffer.now) (left_of g.R.Read.remaining c.args.reader.now)) (left_of g.R.Read.remaining c.loop-head.reader)
    (left_of g.R.Read.remaining c.read_more.new.reader) (unanswered c.loop-head.buffer) c.loop-head.invariant.kept f.1 f.2 none_left

pub returns-else-is_empty-clause-rest : goal.returns-else-is_empty-clause-rest
returns-else-is_empty-clause-rest g c =
    let f = c.in-Done.ensures.read in
    found_cut (prepend_known (unanswered c.args.buffer.now) (left_of g.R.Read.remaining c.args.reader.now)) (left_of g.R.Read.remaining c.loop-head.reader)
    (left_of g.R.Read.remaining c.read_more.new.reader) (unanswered c.loop-head.buffer) c.loop-head.invariant.kept f.1 f.2
    (answers_at _ _ Partial c.as_slice.ensures.value c.in-Partial.ensures.head)
    (full_by_test _ _ _ f.0 (ap length c.as_slice-in-Done.ensures.value) (sym c.is_empty.ensures ∙ c.if-is_empty.false))

pub returns-then-is_empty-clause-fetched : goal.returns-then-is_empty-clause-fetched
returns-then-is_empty-clause-fetched g c =
    let none = partial_has_no_whole (unanswered c.loop-head.buffer) (answers_at _ _ Partial c.as_slice.ensures.value c.in-Partial.ensures.head) in
    fetched_other AtEnd _ _ _ _ _ _ _
    (fetched_nothing _ (unanswered c.loop-head.buffer) _ _ _ _ _ _ c.loop-head.invariant.fetched none c.in-Done.ensures.by.0 c.in-Done.ensures.read.1)

pub returns-else-is_empty-clause-fetched : goal.returns-else-is_empty-clause-fetched
returns-else-is_empty-clause-fetched g c =
    let none = partial_has_no_whole (unanswered c.loop-head.buffer) (answers_at _ _ Partial c.as_slice.ensures.value c.in-Partial.ensures.head) in
    fetched_other CutOff _ _ _ _ _ _ _
    (fetched_nothing _ (unanswered c.loop-head.buffer) _ _ _ _ _ _ c.loop-head.invariant.fetched none c.in-Done.ensures.by.0 c.in-Done.ensures.read.1)

pub returns-in-Failed-clause-fetched : goal.returns-in-Failed-clause-fetched
returns-in-Failed-clause-fetched g c =
    let none = partial_has_no_whole (unanswered c.loop-head.buffer) (answers_at _ _ Partial c.as_slice.ensures.value c.in-Partial.ensures.head) in
    fetched_other (Stopped Read) _ _ _ _ _ _ _
    (fetched_nothing _ (unanswered c.loop-head.buffer) _ _ _ _ _ _ c.loop-head.invariant.fetched none c.in-Failed.ensures.by.0 c.in-Failed.ensures.read)

pub returns-in-NoRoom-clause-fetched : goal.returns-in-NoRoom-clause-fetched
returns-in-NoRoom-clause-fetched g c =
    let none = partial_has_no_whole (unanswered c.loop-head.buffer) (answers_at _ _ Partial c.as_slice.ensures.value c.in-Partial.ensures.head) in
    let f = c.in-NoRoom.ensures.read in
    fetched_other NoMemory _ _ _ _ _ _ _
    (fetched_last _ (unanswered c.loop-head.buffer) f.0 _ _ _ _ _ _ c.loop-head.invariant.fetched none c.in-NoRoom.ensures.by.0 f.1)
