use Rattle.pawn_host.proofs.FindLemmas.{kept_more, head_more, found_short, found_request}
use Rattle.pawn_host.proofs.ReadLemmas.{short_has_no_whole, fetched_more, fetched_last, fetched_nothing, fetched_other}
use Rattle.pawn_host.specs.Common.{prepend_known}
use Rattle.pawn_host.specs.Ends.{left_of}
use Rattle.pawn_host.specs.Unanswered.{unanswered}
use Rattle.pawn_host.specs.declared.session.Cause.TheVariants.{Read}
use Rattle.pawn_host.specs.declared.session.Rest.TheVariants.{CutOff, NoMemory, Stopped}
use Rattle.std.proofs.Common.{arith, ap, length, ◌∙◌}
use Rattle.pawn_host.proofs.session.await_body.Goals as goal

pub loop-reader-preserved : goal.loop-reader-preserved
loop-reader-preserved g c =
    let f = c.in-More.ensures.read in
    let none =
    short_has_no_whole (unanswered c.loop-reader.buffer) c.args.head c.loop-reader.invariant.head (omega (arith, ap length c.as_slice.ensures.value)) in
    record {
      kept = kept_more _ _ _ _ _ f.0 c.loop-reader.invariant.kept f.2 f.3;
      head = head_more (unanswered c.loop-reader.buffer) _ f.0 c.args.head c.loop-reader.invariant.head f.2;
      fine = c.in-More.ensures.by.2 ∙ c.loop-reader.invariant.fine;
      fetched = fetched_more _ (unanswered c.loop-reader.buffer) _ f.0 _ _ _ _ _ _ c.loop-reader.invariant.fetched none c.in-More.ensures.by.1 f.3 f.2;
    }

pub returns-in-Done-clause-found : goal.returns-in-Done-clause-found
returns-in-Done-clause-found g c =
    let f = c.in-Done.ensures.read in
    found_short (prepend_known (unanswered c.args.buffer.now) (left_of g.R.Read.remaining c.args.reader.now)) (left_of g.R.Read.remaining c.loop-reader.reader)
    (left_of g.R.Read.remaining c.read_more.new.reader) (unanswered c.loop-reader.buffer) c.args.head c.loop-reader.invariant.kept f.1 f.2
    c.loop-reader.invariant.head (omega (arith, ap length c.as_slice.ensures.value))

pub returns-clause-found : goal.returns-clause-found
returns-clause-found g c = found_request (prepend_known (unanswered c.args.buffer.now) (left_of g.R.Read.remaining c.args.reader.now))
    (left_of g.R.Read.remaining c.loop-reader.reader) (unanswered c.loop-reader.buffer) c.args.head c.loop-reader.invariant.kept c.loop-reader.invariant.head
    (omega (arith, ap length c.as_slice.ensures.value))

pub returns-in-Done-clause-fetched : goal.returns-in-Done-clause-fetched
returns-in-Done-clause-fetched g c =
    let none =
    short_has_no_whole (unanswered c.loop-reader.buffer) c.args.head c.loop-reader.invariant.head (omega (arith, ap length c.as_slice.ensures.value)) in
    fetched_other CutOff _ _ _ _ _ _ _
    (fetched_nothing _ (unanswered c.loop-reader.buffer) _ _ _ _ _ _ c.loop-reader.invariant.fetched none c.in-Done.ensures.by.0 c.in-Done.ensures.read.1)

pub returns-in-Failed-clause-fetched : goal.returns-in-Failed-clause-fetched
returns-in-Failed-clause-fetched g c =
    let none =
    short_has_no_whole (unanswered c.loop-reader.buffer) c.args.head c.loop-reader.invariant.head (omega (arith, ap length c.as_slice.ensures.value)) in
    fetched_other (Stopped Read) _ _ _ _ _ _ _
    (fetched_nothing _ (unanswered c.loop-reader.buffer) _ _ _ _ _ _ c.loop-reader.invariant.fetched none c.in-Failed.ensures.by.0 c.in-Failed.ensures.read)

pub returns-in-NoRoom-clause-fetched : goal.returns-in-NoRoom-clause-fetched
returns-in-NoRoom-clause-fetched g c =
    let none =
    short_has_no_whole (unanswered c.loop-reader.buffer) c.args.head c.loop-reader.invariant.head (omega (arith, ap length c.as_slice.ensures.value)) in
    let f = c.in-NoRoom.ensures.read in
    fetched_other NoMemory _ _ _ _ _ _ _
    (fetched_last _ (unanswered c.loop-reader.buffer) f.0 _ _ _ _ _ _ c.loop-reader.invariant.fetched none c.in-NoRoom.ensures.by.0 f.1)
