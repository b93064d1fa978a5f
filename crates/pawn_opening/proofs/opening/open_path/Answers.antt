use Rattle.pawn_opening.proofs.Seen.{untouched}
use Rattle.pawn_opening.specs.FilesStand.{IsBlank, IsRefusedStore, OpensFound, StandsIn}
use Rattle.sqlite.specs.Files.{file_state}
use Rattle.std.proofs.Common.{inl, inr, rules, subst, sym}
use Rattle.pawn_opening.proofs.opening.open_path.Goals as goal

pub returns-in-Ok-open_files-clause-refused : goal.returns-in-Ok-open_files-clause-refused
returns-in-Ok-open_files-clause-refused g c = search rules

pub returns-in-Ok-open_files-clause-blank : goal.returns-in-Ok-open_files-clause-blank
returns-in-Ok-open_files-clause-blank g c clean blank = let fresh = c.in-Ok-files_at.ensures.fresh in
    c.in-Ok-open_files.ensures.blank clean (subst IsBlank (sym (untouched g.S.Start.log g.S.Start.db fresh.0 fresh.1)) blank)

pub returns-in-Ok-open_files-clause-stands : goal.returns-in-Ok-open_files-clause-stands
returns-in-Ok-open_files-clause-stands g c clean h stands = let fresh = c.in-Ok-files_at.ensures.fresh in
    c.in-Ok-open_files.ensures.stands clean h (subst (λ i. StandsIn i h) (sym (untouched g.S.Start.log g.S.Start.db fresh.0 fresh.1)) stands)

pub returns-in-Ok-open_files-clause-found : goal.returns-in-Ok-open_files-clause-found
returns-in-Ok-open_files-clause-found g c clean = let fresh = c.in-Ok-files_at.ensures.fresh in
    subst (λ i. OpensFound i (file_state c.in-Ok-open_files.conn)) (untouched g.S.Start.log g.S.Start.db fresh.0 fresh.1)
    (c.in-Ok-open_files.ensures.found clean)

pub returns-in-Err-open_files-clause-refused : goal.returns-in-Err-open_files-clause-refused
returns-in-Err-open_files-clause-refused g c = let fresh = c.in-Ok-files_at.ensures.fresh in (
  c.in-Ok-files_at.files,
  fresh.0,
  fresh.1,
  λ clean. elim (c.in-Err-open_files.ensures.refused clean) [
    | inl fault ↦ inl fault
    | inr refused ↦ inr (subst (λ i. IsRefusedStore i c.args.limit c.in-Err-open_files.why c.in-Err-open_files.left)
        (untouched g.S.Start.log g.S.Start.db fresh.0 fresh.1) refused)
  ],
)

pub returns-in-Err-clause-unopened : goal.returns-in-Err-clause-unopened
returns-in-Err-clause-unopened g c = search rules
