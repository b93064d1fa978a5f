-- The order of rows: the effect of each row on what was read so far.
use Rattle.pawn_csv.specs.Common.{Booking, Entry, Extension, Issued, Rates, most_entries, most_extensions, most_pledges}
use Rattle.pawn_csv.specs.Common.{most_secrets, most_terms}
use Rattle.pawn_csv.specs.Types.{Cause, PledgeColumns, RawPledge, Row, Version}
use Rattle.pawn_csv.specs.declared.order.BegunBook.{BegunBook}
use Rattle.pawn_csv.specs.declared.order.RawBook.{RawBook}
use Rattle.std.specs.Prelude.{ℕ, ◌+◌, nat_le, nat_lt, Bool, true, false, ◌==◌, ◌&&◌, ◌||◌, not, if◌then◌else◌, List, []}
use Rattle.std.specs.Prelude.{◌∷◌, ◌++◌, length, Option, None, Some, Result, Ok, Err}

-- a book of which some rows were read: the counts of its first row, its terms, the complete pledges, and the one at
-- hand
pub record Begun : Type 0 where
  pub version : Version
  pub terms_due : ℕ
  pub pledges_due : ℕ
  pub terms : List Rates
  pub pledges : List RawPledge
  pub at_hand : Option RawPledge

-- the code's begun book, as the specs see it
abbrev pub view_begun : BegunBook → Begun
view_begun b = record {
  version = b.version;
  terms_due = b.terms_due;
  pledges_due = b.pledges_due;
  terms = b.terms;
  pledges = b.pledges.items;
  at_hand = b.at_hand;
}

abbrev pub view_if_any : Option BegunBook → Option Begun
view_if_any None = None
view_if_any (Some b) = Some (view_begun b)

abbrev pub begun_of : RawBook → Option Begun
begun_of raw = view_if_any raw.begun

-- the answer if the test holds, else a row out of order
abbrev pub in_order : {A : Type 0} → Bool → A → Result A Cause
in_order test answer = if test then Ok answer else Err Cause.Order

-- a full list can't grow; this is checked before anything else of the row
abbrev pub unless_full : {A : Type 0} → ℕ → ℕ → Result A Cause → Result A Cause
unless_full count most answer = if nat_le most count then Err Cause.TooMany else answer

-- a pledge of which only its own row was read
abbrev pub raw_pledge : PledgeColumns → RawPledge
raw_pledge columns = record { columns = columns; secrets = []; entries = []; extensions = []; booking = None }

-- the pledge at hand, if any, as a list
abbrev pub hand : Option RawPledge → List RawPledge
hand None = []
hand (Some p) = p ∷ []

-- the pledges begun so far
abbrev pub pledges_begun : Begun → List RawPledge
pledges_begun b = b.pledges ++ hand b.at_hand

abbrev pub is_none : {A : Type 0} → Option A → Bool
is_none None = true
is_none (Some x) = false

abbrev pub is_nil : {A : Type 0} → List A → Bool
is_nil [] = true
is_nil (x ∷ xs) = false

-- the pledge has a secret (its first secret is that of its opening)
abbrev pub has_secret : RawPledge → Bool
has_secret p = not (is_nil p.secrets)

-- the pledge at hand, if any, needs no further rows
abbrev pub may_end : Option RawPledge → Bool
may_end None = true
may_end (Some p) = has_secret p

-- the first row occurs once
abbrev pub accept_first : Option Begun → Version → ℕ → ℕ → Result Begun Cause
accept_first None version terms pledges =
    Ok (record { version = version; terms_due = terms; pledges_due = pledges; terms = []; pledges = []; at_hand = None })
accept_first (Some b) version terms pledges = Err Cause.Order

-- the first row, whose counts are checked against the limits
abbrev pub accept_book : Option Begun → Version → ℕ → ℕ → Result Begun Cause
accept_book s version terms pledges =
    if nat_lt most_terms terms || nat_lt most_pledges pledges then Err Cause.TooMany else accept_first s version terms pledges

-- the next version of terms, while the first row states more of them; pledges come after all versions of terms
abbrev pub accept_terms : Begun → ℕ → Rates → Result Begun Cause
accept_terms b version rates =
    in_order ((version == length b.terms + 1) && nat_le version b.terms_due && (length (pledges_begun b) == 0))
    (record b { terms = b.terms ++ rates ∷ [] })

-- the next pledge, while the first row states more of them and the pledge before it needs no further rows
abbrev pub accept_pledge : Begun → PledgeColumns → Result Begun Cause
accept_pledge b columns =
    in_order ((length b.terms == b.terms_due) && may_end b.at_hand && (columns.number == length (pledges_begun b) + 1) && nat_le columns.number b.pledges_due)
    (record b { pledges = pledges_begun b; at_hand = Some (raw_pledge columns) })

-- the next secret, before the other lists
abbrev pub accept_secret : RawPledge → ℕ → Issued → Result RawPledge Cause
accept_secret p place issued =
    unless_full (length p.secrets) most_secrets
    (in_order ((place == length p.secrets + 1) && is_nil p.entries && is_nil p.extensions && is_none p.booking)
    (record p { secrets = p.secrets ++ issued ∷ [] }))

-- the next entry, after the secrets
abbrev pub accept_entry : RawPledge → Entry → Result RawPledge Cause
accept_entry p entry =
    unless_full (length p.entries) most_entries
    (in_order ((entry.seq == length p.entries + 1) && has_secret p && is_nil p.extensions && is_none p.booking)
    (record p { entries = p.entries ++ entry ∷ [] }))

-- the next extension, after the entries
abbrev pub accept_extension : RawPledge → ℕ → Extension → Result RawPledge Cause
accept_extension p place extension =
    unless_full (length p.extensions) most_extensions
    (in_order ((place == length p.extensions + 1) && has_secret p && is_none p.booking)
    (record p { extensions = p.extensions ++ extension ∷ [] }))

-- the booking, last
abbrev pub accept_booking : RawPledge → Booking → Result RawPledge Cause
accept_booking p booking = in_order (has_secret p && is_none p.booking) (record p { booking = Some booking })

-- the begun book with the pledge at hand replaced
abbrev pub put_hand : Begun → Result RawPledge Cause → Result Begun Cause
put_hand b (Ok p) = Ok (record b { at_hand = Some p })
put_hand b (Err e) = Err e

-- a row must belong to the pledge at hand
abbrev pub on_hand : Begun → ℕ → Option RawPledge → (RawPledge → Result RawPledge Cause) → Result Begun Cause
on_hand b number None step = Err Cause.Order
on_hand b number (Some p) step = if p.columns.number == number then put_hand b (step p) else Err Cause.Order

-- an extension is refused in a text of version 1
abbrev pub on_second : Version → Result Begun Cause → Result Begun Cause
on_second Version.One answer = Err Cause.BadField
on_second Version.Two answer = answer

-- a row after the first
abbrev pub accept_after : Begun → Row → Result Begun Cause
accept_after b (Row.Book version terms pledges) = accept_book (Some b) version terms pledges
accept_after b (Row.Terms version rates) = accept_terms b version rates
accept_after b (Row.Pledge columns) = accept_pledge b columns
accept_after b (Row.Secret number place issued) = on_hand b number b.at_hand (λ p. accept_secret p place issued)
accept_after b (Row.Entry number entry) = on_hand b number b.at_hand (λ p. accept_entry p entry)
accept_after b (Row.Extension number place extension) =
    on_second b.version (on_hand b number b.at_hand (λ p. accept_extension p place extension))
accept_after b (Row.Booking number booking) = on_hand b number b.at_hand (λ p. accept_booking p booking)

-- the first row
abbrev pub accept_before : Row → Result Begun Cause
accept_before (Row.Book version terms pledges) = accept_book None version terms pledges
accept_before other = Err Cause.Order

-- the effect of a row on what was read so far
abbrev pub accept : Option Begun → Row → Result Begun Cause
accept None row = accept_before row
accept (Some b) row = accept_after b row

-- go on after a row, unless it was refused
abbrev pub then_run : Result Begun Cause → (Option Begun → Result (Option Begun) Cause) → Result (Option Begun) Cause
then_run (Ok b) more = more (Some b)
then_run (Err e) more = Err e

-- the effect of rows on what was read so far, or the cause of the first row that is refused
abbrev pub run : Option Begun → List Row → Result (Option Begun) Cause
run s [] = Ok s
run s (r ∷ rs) = then_run (accept s r) (λ t. run t rs)

-- all that the first row states was read, and the last pledge needs no further rows
abbrev pub is_whole : Option Begun → Bool
is_whole None = false
is_whole (Some b) = (length b.terms == b.terms_due) && (length (pledges_begun b) == b.pledges_due) && may_end b.at_hand
