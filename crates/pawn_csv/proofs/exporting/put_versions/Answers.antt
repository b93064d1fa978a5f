use Rattle.pawn_book.proofs.Places.{terms_at_place}
use Rattle.pawn_csv.proofs.Basics.{◌≡◌, ◌<◌, ◌∙◌, ℕ, length, arith, nat_tests, reads_as, reads_then, subst, sym, Err}
use Rattle.pawn_csv.proofs.Basics.{rules}
use Rattle.pawn_csv.proofs.CountLemmas.{stands_there, versions_all, versions_front, versions_next}
use Rattle.pawn_csv.specs.Common.{get, terms_of}
use Rattle.pawn_csv.proofs.exporting.put_versions.Goals as goal

pub returns-in_err-terms-clause-shares : goal.returns-in_err-terms-clause-shares
returns-in_err-terms-clause-shares g c =
    let now : c.from_residual.result ≡ Err c.in_err-terms.field-0.0 = search rules in
    reads_then c.loop-index.invariant.shares c.in_err-terms.ensures.reads
    (λ h before said count_is. rw now (versions_front (terms_of (get h.books c.args.book)) c.loop-index.index before))

pub loop-index-preserved : goal.loop-index-preserved
loop-index-preserved g c = record {
  shares = reads_then c.loop-index.invariant.shares c.in_ok-terms.ensures.reads (λ h before said. versions_next (terms_of (get h.books c.args.book))
      c.loop-index.index c.in-Some.terms (rw c.in-Some.is at said) before (rw c.rates.ensures.value at c.put_terms.ensures.puts));
}

pub returns-clause-shares : goal.returns-clause-shares
returns-clause-shares g c = reads_as c.loop-index.invariant.shares (λ h before count_is.
    let all : c.loop-index.index ≡ length (terms_of (get h.books c.args.book)) =
    grind (arith, nat_tests, c.loop-index-test.false, c.loop-index.auto.index-end, count_is) in
    versions_all (terms_of (get h.books c.args.book)) c.loop-index.index all before)

pub returns-in_default-clause-shares : goal.returns-in_default-clause-shares
returns-in_default-clause-shares g c = reads_then c.loop-index.invariant.shares c.in_ok-terms.ensures.reads (λ h before said count_is.
    let ts = terms_of (get h.books c.args.book) in
    absurd (stands_there ts c.loop-index.index (subst (λ (n : ℕ). c.loop-index.index < n) count_is c.loop-index-test.true)
    (sym (rw c.in_default.is at said ∙ terms_at_place ts c.loop-index.index))))
