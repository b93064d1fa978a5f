-- The texts of statements, line by line. Days are day numbers, amounts are pence.
use Rattle.pawn_debt.specs.Words.{sort_text}
use Rattle.pawn_debt.specs.declared.entry.Entry.{Entry}
use Rattle.pawn_debt.specs.declared.entry.Kind.{Kind}
use Rattle.pawn_debt.specs.declared.entry.Kind.TheVariants.{Fixed, Running}
use Rattle.pawn_debt.specs.declared.owing.Owing.{Owing}
use Rattle.pawn_pledge.specs.Words.{state_text}
use Rattle.pawn_pledge.specs.declared.record.Agreement.{Agreement}
use Rattle.pawn_pledge.specs.declared.record.Booking.{Booking}
use Rattle.pawn_pledge.specs.declared.record.Extension.{Extension}
use Rattle.pawn_pledge.specs.declared.record.Standing.{Standing}
use Rattle.pawn_pledge.specs.declared.record.Status.{Status}
use Rattle.pawn_view.specs.Common.{Closing, Open, PledgeValue, Redeemed, Sold, day_text, debt_of, digit, due, end_of}
use Rattle.pawn_view.specs.Common.{flat_map, owing_of, status_of}
use Rattle.std.specs.Prelude.{ℕ, ◌/◌, ◌-◌, max, Bool, true, false, List, [], ◌∷◌, ◌++◌, Option, Some, None, codes}
use Rattle.std.specs.Prelude.{decimal}

-- pounds, a point and two digits of pence
abbrev pub money : ℕ → List ℕ
money pence = decimal (pence / 100) ++ (codes "." ++ (digit (pence / 10) ∷ digit pence ∷ []))

-- a day as `2024-01-31`
unfoldable pub date_text : ℕ → List ℕ
date_text day = day_text day

-- a line: a label, and then a text, a number, a day or an amount
abbrev pub text_line : List ℕ → List ℕ → List ℕ
text_line label text = label ++ (text ++ codes "\n")

abbrev pub number_line : List ℕ → ℕ → List ℕ
number_line label number = text_line label (decimal number)

abbrev pub day_line : List ℕ → ℕ → List ℕ
day_line label day = text_line label (date_text day)

abbrev pub amount_line : List ℕ → ℕ → List ℕ
amount_line label pence = text_line label (money pence)

-- the kind of a pledge: fixed, with its sum, or running, with its limit
abbrev pub kind_line : Kind → List ℕ
kind_line (Fixed sum) = amount_line (codes "Kind fixed ") sum
kind_line (Running limit) = amount_line (codes "Kind running ") limit

abbrev pub extended_line : Extension → List ℕ
extended_line e = codes "Extended " ++ (date_text e.day ++ (codes " to " ++ (date_text e.until ++ codes "\n")))

abbrev pub status_line : Status → List ℕ
status_line Status.Inside = codes "Status inside\n"
status_line Status.Grace = codes "Status grace\n"
status_line Status.Realisable = codes "Status realisable\n"
status_line Status.Passed = codes "Status passed\n"
status_line Status.Redeemed = codes "Status redeemed\n"
status_line Status.Sold = codes "Status sold\n"

-- the lines of the sum owed; none if the article has passed to the broker
abbrev pub owed_lines : Status → Owing → List ℕ
owed_lines Status.Passed owing = []
owed_lines _ owing =
    amount_line (codes "Principal ") owing.principal ++ (amount_line (codes "Charges ") owing.charges ++ amount_line (codes "Owing ") owing.total)

abbrev pub held_line : Bool → List ℕ
held_line true = codes "Held yes\n"
held_line false = codes "Held no\n"

abbrev pub booking_line : Option Booking → List ℕ
booking_line None = codes "Booking none\n"
booking_line (Some b) =
    codes "Booking " ++ (date_text b.day ++ (codes " " ++ (decimal b.window ++ (codes " " ++ (state_text b.state ++ codes "\n")))))

abbrev pub redeemed_line : ℕ → ℕ → List ℕ
redeemed_line day paid = codes "Redeemed " ++ (date_text day ++ (codes " paid " ++ (money paid ++ codes "\n")))

abbrev pub sold_line : ℕ → ℕ → ℕ → ℕ → List ℕ
sold_line day net surplus shortfall =
    codes "Sold " ++ (date_text day ++ (codes " net " ++ (money net
    ++ (codes " surplus " ++ (money surplus ++ (codes " shortfall " ++ (money shortfall ++ codes "\n")))))))

-- how a pledge was closed, if it was; `total` is the sum owed on that day, in pence
abbrev pub closing_line : Closing → ℕ → List ℕ
closing_line Open total = []
closing_line (Redeemed day paid) total = redeemed_line day paid
closing_line (Sold day net) total = sold_line day net (net - total) (total - net)

abbrev pub entry_line : Entry → List ℕ
entry_line e = codes "Entry " ++ (decimal e.seq ++ (codes " " ++ (date_text e.day ++ (codes " " ++ (sort_text e.sort
    ++ (codes " " ++ (money e.pence ++ codes "\n")))))))

-- the day that a statement describes: the closing day of a closed pledge, otherwise the later of the day of the request
-- and the day of the last change
abbrev pub shown_day : Closing → ℕ → ℕ → ℕ
shown_day Open last day = max day last
shown_day (Redeemed closed paid) last day = closed
shown_day (Sold closed net) last day = closed

-- the lines before the extensions: number, article, kind, day taken, end of the period
abbrev pub first_lines : Agreement → ℕ → List ℕ
first_lines agreement ends =
    number_line (codes "Pledge ") agreement.number
    ++ (text_line (codes "Article ") agreement.opening.article
    ++ (kind_line agreement.opening.kind
    ++ (day_line (codes "Taken ") agreement.taken
    ++ day_line (codes "Ends ") ends)))

-- the lines between the extensions and the entries
abbrev pub state_lines : Status → Owing → Standing → List ℕ
state_lines status owing s =
    status_line status ++ (owed_lines status owing ++ (held_line s.held ++ (booking_line s.booking ++ closing_line s.closing owing.total)))

-- the state of a pledge on a day
abbrev pub state_on : ℕ → PledgeValue → List ℕ
state_on day p = state_lines (status_of p day) (owing_of (due (debt_of p) day)) p.standing

-- a pledge's statement as requested on a day
abbrev pub statement_text : ℕ → PledgeValue → List ℕ
statement_text day p =
    first_lines p.agreement (end_of p)
    ++ (flat_map extended_line p.extensions
    ++ (state_on (shown_day p.standing.closing p.standing.last day) p
    ++ flat_map entry_line p.entries))

-- a pledge's statement, or the line of an unknown receipt
abbrev pub shown_text : ℕ → Option PledgeValue → List ℕ
shown_text day None = codes "Unknown receipt\n"
shown_text day (Some p) = statement_text day p

-- the text for each further receipt, each after a blank line
abbrev pub further_texts : ℕ → List (Option PledgeValue) → List ℕ
further_texts day pledges = flat_map (λ p. codes "\n" ++ shown_text day p) pledges

-- the texts for receipts in their order, with a blank line between two
abbrev pub presented_text : ℕ → List (Option PledgeValue) → List ℕ
presented_text day [] = []
presented_text day (p ∷ ps) = shown_text day p ++ further_texts day ps
