use Rattle.pawn_book.specs.Keeping.{entries_of}
use Rattle.pawn_book.specs.declared.visit.Flow.TheVariants.{Go}
use Rattle.pawn_pledge.specs.declared.brief.BriefFields.{BriefFields}
use Rattle.pawn_writing.proofs.ListLemmas.{none_shared}
use Rattle.std.proofs.Common.{◌∙◌, [], ap, refl}
use Rattle.pawn_writing.proofs.list_visits.visit_entries.Goals as goal

pub returns-then-fields-eq0-clause-reads : goal.returns-then-fields-eq0-clause-reads
returns-then-fields-eq0-clause-reads g c =
    ([], Go, (refl, refl), none_shared entries_of (λ b. b.counts.entries) _ _ (λ p. refl) c.fields.ensures.value c.if-fields-eq0.true)

pub returns-clause-unasked : goal.returns-clause-unasked
returns-clause-unasked g c none = absurd (c.if-fields-eq0.false (ap (λ (b : BriefFields). b.counts.entries) c.fields.ensures.value ∙ none))
