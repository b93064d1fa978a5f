use Rattle.pawn_book.proofs.Places.{pledge_at}
use Rattle.pawn_book.proofs.Reading.{reads_as, reads_none}
use Rattle.pawn_book.specs.Limits.{most_pledges}
use Rattle.pawn_table_keeper.proofs.TooMany.{too_many_pledges}
use Rattle.pawn_table_keeper.proofs.Walks.{ended, failed, more, stopped, walked_past}
use Rattle.pawn_table_keeper.specs.Common.{get, pledge_in, Keeping, Reads, pledges_of, PledgeValue}
use Rattle.pawn_table_keeper.specs.Handing.{keeping_of}
use Rattle.pawn_tables.proofs.Basics.{nat_tests}
use Rattle.std.proofs.Common.{Err, None, Option, Some, arith, refl, rules, slice_get, sym, ℕ, ◌+◌, ◌<◌, ◌∙◌, ◌≡◌}
use Rattle.pawn_table_keeper.proofs.keeper.TableKeepKeep.walk.Goals as goal

-- the pledge that was read is the one at the place
next : {K : Type 0} {k : Keeping K} {a b : K} (book place number : ℕ) (read told : Option PledgeValue) → read ≡ told → number ≡ place + 1
    → Reads k a b (λ h. read ≡ pledge_in (get h.books book) number) → Reads k a b (λ h. told ≡ slice_get (pledges_of (get h.books book)) place)
next book place number read told is at reads = reads_as reads (λ h found. sym is ∙ found ∙ pledge_at (get h.books book) place number at)

pub returns-in_err-pledge-clause-reads : goal.returns-in_err-pledge-clause-reads
returns-in_err-pledge-clause-reads g c = let is : c.from_residual.result ≡ Err c.in_err-pledge.field-0.0 = search rules in
    rw is (failed (keeping_of g.S.Store) g.V.Visitor.step (λ h. pledges_of (get h.books c.args.book)) _ _ _ _ _ c.loop-place.visitor c.loop-place.place
    c.loop-place.invariant {P = λ h. Unit {0}} c.in_err-pledge.ensures.reads)

pub returns-in_default-2-clause-reads : goal.returns-in_default-2-clause-reads
returns-in_default-2-clause-reads g c = ended (keeping_of g.S.Store) g.V.Visitor.step
    (λ h. pledges_of (get h.books c.args.book)) _ _ _ _ _ c.loop-place.visitor c.loop-place.place c.loop-place.invariant
    (next c.args.book c.loop-place.place c.in-Some.number c.in_ok-pledge.field-0 None (search rules) (search rules) c.in_ok-pledge.ensures.reads)

pub returns-in-Stop-clause-reads : goal.returns-in-Stop-clause-reads
returns-in-Stop-clause-reads g c =
    stopped (keeping_of g.S.Store) g.V.Visitor.step (λ h. pledges_of (get h.books c.args.book)) _ _ _ _ _ c.visit.new.self c.loop-place.place
    c.loop-place.invariant c.in-Some-2.pledge (next c.args.book c.loop-place.place c.in-Some.number c.in_ok-pledge.field-0 (Some c.in-Some-2.pledge)
    (search rules) (search rules) c.in_ok-pledge.ensures.reads) (rw c.in-Stop.is at c.visit.ensures.steps)

pub loop-place-preserved : goal.loop-place-preserved
loop-place-preserved g c =
    more (keeping_of g.S.Store) g.V.Visitor.step (λ h. pledges_of (get h.books c.args.book)) _ _ _ _ _ c.visit.new.self c.loop-place.place
    c.loop-place.invariant c.in-Some-2.pledge (next c.args.book c.loop-place.place c.in-Some.number c.in_ok-pledge.field-0 (Some c.in-Some-2.pledge)
    (search rules) (search rules) c.in_ok-pledge.ensures.reads) (rw c.in-Go.is at c.visit.ensures.steps)

pub returns-clause-reads : goal.returns-clause-reads
returns-clause-reads g c =
    failed (keeping_of g.S.Store) g.V.Visitor.step (λ h. pledges_of (get h.books c.args.book)) _ _ _ _ _ c.loop-place.visitor c.loop-place.place
    c.loop-place.invariant (reads_none (keeping_of g.S.Store) c.loop-place.self (λ h. Unit {0}) (λ h. tt))

pub returns-clause-errs : goal.returns-clause-errs
returns-clause-errs g c = let past : most_pledges < c.loop-place.place = grind (arith, nat_tests, c.loop-place-test.false) in
    walked_past (keeping_of g.S.Store) g.V.Visitor.step (λ h. pledges_of (get h.books c.args.book)) most_pledges
    (λ h. too_many_pledges h c.args.book) _ _ _ c.loop-place.visitor c.loop-place.place (λ steady. steady) c.loop-place.invariant past _ refl
