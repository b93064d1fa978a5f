-- The book that rows make once all of them have been read.
use Rattle.pawn_csv.specs.Common.{AreReplayable, BookRows, Closing, Each, IsNumber, IsUnder, PledgeValue, Rates}
use Rattle.pawn_csv.specs.Order.{Begun, is_whole, pledges_begun}
use Rattle.pawn_csv.specs.Rows.{closing_amount, closing_day, closing_word, pledge_columns}
use Rattle.pawn_csv.specs.Types.{Cause, PledgeColumns, RawPledge}
use Rattle.std.specs.Prelude.{◌≡◌, true, false, List, map, Option, Some, IfSome, Result, Ok, Err}

-- a pledge as its rows describe it
abbrev pub raw_of : PledgeValue → RawPledge
raw_of p = record { columns = pledge_columns p; secrets = p.secrets; entries = p.entries; extensions = p.extensions; booking = p.standing.booking }

-- the closing that the columns state
abbrev pub IsClosingOf : PledgeColumns → Closing → Type 0
IsClosingOf c closing =
    (c.closing ≡ closing_word closing) × (c.closing_day ≡ closing_day closing) × (c.amount ≡ closing_amount closing)

-- `raw` is what the rows of the pledge `p` describe, and a book with these terms can have `p`
abbrev pub IsRawOf : List Rates → RawPledge → PledgeValue → Type 0
IsRawOf terms raw p = (raw ≡ raw_of p) × IsUnder terms p × IsNumber p.agreement.number

-- the same for a list of pledges, each in turn
abbrev pub AreRawOf : List Rates → List RawPledge → List PledgeValue → Type 0
AreRawOf terms raws pledges =
    (raws ≡ map raw_of pledges) × Each (IsUnder terms) pledges × Each (λ p. IsNumber p.agreement.number) pledges

-- the rows that were read are those of this book
abbrev pub IsBegunOf : Begun → BookRows → Type 0
IsBegunOf b k = (b.terms ≡ k.terms) × AreRawOf b.terms (pledges_begun b) k.pledges

-- the rows that were read are complete, and make this replayable book
abbrev pub IsFinishedAs : Option Begun → BookRows → Type 0
IsFinishedAs s k = (b : Begun) × (s ≡ Some b) × (is_whole s ≡ true) × IsBegunOf b k × AreReplayable k.terms k.pledges

-- the rows that were read are complete, but make no replayable book
abbrev pub IsOfNoBook : Option Begun → Type 0
IsOfNoBook s = (b : Begun) × (s ≡ Some b) × (is_whole s ≡ true) × ((k : BookRows) → IsBegunOf b k → AreReplayable k.terms k.pledges → ⊥)

-- the rows, if there are any, are refused as a book for this cause
abbrev pub IsRefusedAs : Option BookRows → Cause → Type 0
IsRefusedAs rows Cause.Memory = Unit {0}
IsRefusedAs rows Cause.NotReplayable = IfSome rows (λ k. AreReplayable k.terms k.pledges → ⊥)
IsRefusedAs rows e = ⊥

-- the result at the end of the rows: a book, or the cause why there is none
abbrev pub Ends : Option Begun → Result BookRows Cause → Type 0
Ends s (Ok k) = IsFinishedAs s k
Ends s (Err Cause.Order) = is_whole s ≡ false
Ends s (Err Cause.NotReplayable) = IsOfNoBook s
Ends s (Err Cause.Memory) = Unit {0}
Ends s (Err e) = ⊥
