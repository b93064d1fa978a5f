use Rattle.pawn_saving.proofs.StoredReads.{entry_placed, tells_within}
use Rattle.pawn_saving.proofs.Writing.{refl, ◌∙◌, get, pledge_in}
use Rattle.pawn_tables.specs.Common.{entries_of, extensions_of, secrets_of}
use Rattle.pawn_saving.proofs.stored.is_stored_at.Goals as goal

pub returns-in_ok-entry_in-in-Entries-clause-reads : goal.returns-in_ok-entry_in-in-Entries-clause-reads
returns-in_ok-entry_in-in-Entries-clause-reads g c clean within h sound st = let found = c.in_ok-entry_in-in-Entries.ensures.finds clean within h (λ now. st) in
    let p = pledge_in (get h.books c.args.book) c.args.number in (
      tells_within _ _ p (entries_of p) c.args.place _ _ c.in-Entries.is refl c.is_some.ensures
          (found.0 ∙ entry_placed h c.args.book c.args.number c.args.place sound),
      found.1,
    )

pub returns-in_ok-secret_in-in-Secrets-clause-reads : goal.returns-in_ok-secret_in-in-Secrets-clause-reads
returns-in_ok-secret_in-in-Secrets-clause-reads g c clean within h sound st =
    let found = c.in_ok-secret_in-in-Secrets.ensures.finds clean within h (λ now. st) in let p = pledge_in (get h.books c.args.book) c.args.number in
    (tells_within _ _ p (secrets_of p) c.args.place _ _ c.in-Secrets.is refl c.is_some-in-Secrets.ensures found.0, found.1)

pub returns-in_ok-extension_in-in-Extensions-clause-reads : goal.returns-in_ok-extension_in-in-Extensions-clause-reads
returns-in_ok-extension_in-in-Extensions-clause-reads g c clean within h sound st =
    let found = c.in_ok-extension_in-in-Extensions.ensures.finds clean within h (λ now. st) in let p = pledge_in (get h.books c.args.book) c.args.number in
    (tells_within _ _ p (extensions_of p) c.args.place _ _ c.in-Extensions.is refl c.is_some-in-Extensions.ensures found.0, found.1)
