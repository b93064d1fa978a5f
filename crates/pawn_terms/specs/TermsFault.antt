-- The reasons why three numbers are refused as terms.
use Rattle.pawn_base.specs.Refusals.{first_of}
use Rattle.pawn_terms.specs.Limits.{most_rate, most_keep}
use Rattle.pawn_terms.specs.declared.terms.Rates.{Rates}
use Rattle.pawn_terms.specs.declared.terms.TermsFault.{TermsFault}
use Rattle.pawn_terms.specs.declared.terms.TermsFault.TheVariants.{RateTooHigh, KeepTooHigh, KeepingRate}
use Rattle.std.specs.Prelude.{ℕ, List, [], ◌∷◌, nat_lt, ◌||◌, Result, Ok, codes}

-- the terms of three numbers, or the first fault that applies
abbrev pub terms_answer : Rates → Result Rates TermsFault
terms_answer t =
    first_of
    ((nat_lt most_rate t.rate, RateTooHigh)
    ∷ (nat_lt most_keep t.keep_before || nat_lt most_keep t.keep_after, KeepTooHigh)
    ∷ (nat_lt t.keep_before t.keep_after, KeepingRate)
    ∷ [])
    (Ok t)

-- the code of the fault in replies
abbrev pub terms_fault_code : TermsFault → ℕ
terms_fault_code RateTooHigh = 102
terms_fault_code KeepTooHigh = 103
terms_fault_code KeepingRate = 104

-- the name of the fault in replies
abbrev pub terms_fault_name : TermsFault → List ℕ
terms_fault_name RateTooHigh = codes "RateTooHigh"
terms_fault_name KeepTooHigh = codes "KeepTooHigh"
terms_fault_name KeepingRate = codes "KeepingRate"
