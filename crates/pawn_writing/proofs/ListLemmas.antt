-- A list that has nothing is not asked for.
use Rattle.pawn_book.proofs.Reading.{reads_none}
use Rattle.pawn_book.specs.BookStep.{pledge_in}
use Rattle.pawn_book.specs.Keeping.{Keeping, Reads}
use Rattle.pawn_book.specs.Visits.{IsShare, Whole}
use Rattle.pawn_book.specs.declared.visit.Flow.TheVariants.{Go}
use Rattle.pawn_pledge.specs.Brief.{brief_of}
use Rattle.pawn_pledge.specs.Pledge.{PledgeValue}
use Rattle.pawn_pledge.specs.declared.brief.BriefFields.{BriefFields}
use Rattle.std.proofs.Common.{◌≡◌, ◌∙◌, ℕ, List, [], Option, Some, length, refl, ap, sym}
use Rattle.std.proofs.lemmas.List.{nil_from_length}
use Rattle.std.specs.FinMap.{get}

-- nothing of a list of the pledge that has nothing is all of it
nothing_shared : {T : Type 0} (list : Option PledgeValue → List T) {o : Option PledgeValue} {p : PledgeValue} → o ≡ Some p → length (list (Some p)) ≡ 0
    → IsShare [] Go Whole (list o)
nothing_shared list {o = o} {p = p} at none = (list o, refl, λ going done. ap list at ∙ nil_from_length (list (Some p)) none)

-- .. for a keeper that was not asked
pub none_shared : {K T : Type 0} {k : Keeping K} {s : K} (list : Option PledgeValue → List T) (count : BriefFields → ℕ) (book number : ℕ)
    {brief fields : BriefFields} → ((p : PledgeValue) → count (brief_of p) ≡ length (list (Some p))) → fields ≡ brief → count fields ≡ 0 → Reads k s s (λ h.
    (p : PledgeValue) → pledge_in (get h.books book) number ≡ Some p → brief ≡ brief_of p → IsShare [] Go Whole (list (pledge_in (get h.books book) number)))
none_shared list count book number counted same none = reads_none _ _ _ (λ h p at is. nothing_shared list at (sym (ap count (same ∙ is) ∙ counted p) ∙ none))
