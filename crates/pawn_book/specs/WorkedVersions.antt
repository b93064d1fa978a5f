-- Worked examples of the versions of terms: the next version, and the refusals in their order.
use Rattle.pawn_book.specs.BookStep.{next_terms}
use Rattle.pawn_book.specs.Common.{Rates}
use Rattle.pawn_book.specs.declared.request.NewTerms.{NewTerms}
use Rattle.pawn_book.specs.declared.refusal.Refusal.{Refusal}
use Rattle.pawn_book.specs.declared.refusal.Refusal.TheVariants.{Terms, TermsFull, TermsSeq}
use Rattle.pawn_terms.specs.Terms.{rates_of}
use Rattle.pawn_terms.specs.declared.terms.TermsFault.TheVariants.{RateTooHigh}
use Rattle.std.specs.Prelude.{◌≡◌, ℕ, Result, Ok, Err}

-- the answer of a book with this many versions to a version with this rate, without charges for safe keeping
abbrev pub putting : ℕ → ℕ → ℕ → Result Rates Refusal
putting versions version rate = next_terms versions (record { version = version; rates = rates_of rate 0 0 })

-- versions are counted from 1, without gaps, up to the greatest
pub record WorkedVersions : Type 0 where
  pub first : putting 0 1 20000 ≡ Ok (rates_of 20000 0 0)
  pub none : putting 0 0 20000 ≡ Err TermsSeq
  pub gap : putting 0 2 20000 ≡ Err TermsSeq
  pub last : putting 98 99 20000 ≡ Ok (rates_of 20000 0 0)
  pub full : putting 99 100 20000 ≡ Err TermsFull
  -- a gap is refused first, then a full book, then the rate
  pub gap_when_full : putting 99 101 20000 ≡ Err TermsSeq
  pub rate_when_full : putting 99 100 20001 ≡ Err TermsFull
  pub rate : putting 98 99 20001 ≡ Err (Terms RateTooHigh)
