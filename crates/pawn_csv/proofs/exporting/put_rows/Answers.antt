use Rattle.pawn_csv.proofs.Basics.{◌≡◌, Err, rules, reads_as, reads_then}
use Rattle.pawn_csv.proofs.ExportLemmas.{rows_cut, rows_whole}
use Rattle.pawn_csv.specs.Common.{get}
use Rattle.pawn_csv.proofs.exporting.put_rows.Goals as goal

pub returns-clause-shares : goal.returns-clause-shares
returns-clause-shares g c = reads_then c.in_ok-put_versions.ensures.shares c.put_pledges.ensures.shares
    (λ h terms pledges at is head_is. rows_whole (get h.books c.args.book) at c.args.head.now is head_is terms pledges)

pub returns-in_err-put_versions-clause-shares : goal.returns-in_err-put_versions-clause-shares
returns-in_err-put_versions-clause-shares g c =
    let now : c.from_residual.result ≡ Err c.in_err-put_versions.field-0.0 = search rules in
    reads_as c.in_err-put_versions.ensures.shares
    (λ h terms at is head_is. rw now (rows_cut (get h.books c.args.book) at c.args.head.now is head_is terms))
