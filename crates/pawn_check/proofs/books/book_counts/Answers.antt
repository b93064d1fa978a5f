use Rattle.pawn_book.proofs.Reading.{reads_then, reads_both}
use Rattle.pawn_book.specs.declared.change.BookHead.{BookHead}
use Rattle.pawn_check.proofs.Fronts.{handed_on, has_counts, sound_book}
use Rattle.std.proofs.Common.{rules, ◌≡◌, Err, ap}
use Rattle.pawn_check.proofs.books.book_counts.Goals as goal

pub returns-in_err-find_terms-clause-reads : goal.returns-in_err-find_terms-clause-reads
returns-in_err-find_terms-clause-reads g c =
    let now : c.from_residual-in_err-find_terms.result ≡ Err c.in_err-find_terms.field-0.0 = search rules in
    reads_then c.in_ok-head.ensures.reads c.in_err-find_terms.ensures.reads (λ h head said k is.
    handed_on h c.in_err-find_terms.field-0.0 _ _ now (said k is (ap (λ (x : BookHead). x.terms) (head k is))))

pub returns-in_err-rows-clause-reads : goal.returns-in_err-rows-clause-reads
returns-in_err-rows-clause-reads g c =
    let now : c.from_residual-in_err-rows.result ≡ Err c.in_err-rows.field-0.0 = search rules in
    reads_then (reads_both c.in_ok-head.ensures.reads c.in_ok-find_terms.ensures.reads) c.in_err-rows.ensures.reads (λ h both said k is.
    handed_on h c.in_err-rows.field-0.0 _ _ now (said k is (ap (λ (x : BookHead). x.pledges) (both.0 k is))))

pub returns-clause-reads : goal.returns-clause-reads
returns-clause-reads g c =
    reads_then (reads_both c.in_ok-head.ensures.reads c.in_ok-find_terms.ensures.reads) c.in_ok-rows.ensures.reads (λ h both said k is.
    let head = c.in_ok-head.head in
    let front = said k is (ap (λ (x : BookHead). x.pledges) (both.0 k is)) in
    let checked = both.1 k is (ap (λ (x : BookHead). x.terms) (both.0 k is)) in (
      (
        c.know_head.ensures.number,
        sound_book k head (both.0 k is) c.in_ok-rows.rows c.know_head.ensures.key c.know_head.ensures.imported c.know_head.ensures.utf8 c.know_head.ensures.name
            c.know_head.ensures.capacity c.if-head-gt-MOST_TERMS.false c.if-head-gt-MOST_PLEDGES.false checked front,
      ),
      has_counts k head (both.0 k is) c.in_ok-rows.rows front,
    ))
