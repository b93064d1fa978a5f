-- How the rows of a book are laid out, whether or not the book is replayable.
use Rattle.pawn_csv.specs.Common.{AreNumbered, AreReplayable, BookRows, Booking, Entry, Extension, Issued, Rates}
use Rattle.pawn_csv.specs.Common.{flat_map, most_entries, most_extensions, most_pledges, most_secrets, most_terms}
use Rattle.pawn_csv.specs.Order.{Begun, has_secret, is_whole, accept, pledges_begun, run}
use Rattle.pawn_csv.specs.Reading.{RefusesEnd}
use Rattle.pawn_csv.specs.Rows.{Knows, booking_csv_rows, entry_rows, extension_rows, book_csv_rows, secret_rows}
use Rattle.pawn_csv.specs.Rows.{terms_rows}
use Rattle.pawn_csv.specs.Types.{Cause, RawPledge, Row, Version}
use Rattle.std.specs.Prelude.{◌≡◌, ◌≢◌, ◌⊎◌, ◌↔◌, ℕ, ◌+◌, ◌≤◌, ◌<◌, true, List, [], ◌∷◌, ◌++◌, length, Option, None}
use Rattle.std.specs.Prelude.{Some, Ok, Err}

-- the rows of a pledge's lists
abbrev pub list_rows : ℕ → List Issued → List Entry → List Extension → Option Booking → List Row
list_rows n secrets entries extensions booking =
    secret_rows n 1 secrets ++ (entry_rows n entries ++ (extension_rows n 1 extensions ++ booking_csv_rows n booking))

-- the rows of a pledge: its own, and those of its lists
abbrev pub raw_rows : RawPledge → List Row
raw_rows p = Row.Pledge p.columns ∷ list_rows p.columns.number p.secrets p.entries p.extensions p.booking

-- a pledge's lists are within the limits, and its entries are numbered 1, 2, ..; only version 2 has extensions
pub record IsWithin (v : Version) (p : RawPledge) : Type 0 where
  pub secrets : length p.secrets ≤ most_secrets
  pub entries : length p.entries ≤ most_entries
  pub extensions : length p.extensions ≤ most_extensions
  pub numbered : AreNumbered 1 p.entries
  pub known : v ≡ Version.One → p.extensions ≡ []

-- pledges are numbered from n on, and each has a secret (the first secret is that of its opening)
abbrev pub AreLaidFrom : ℕ → Version → List RawPledge → Type 0
AreLaidFrom n v [] = Unit {0}
AreLaidFrom n v (p ∷ ps) = (p.columns.number ≡ n) × (has_secret p ≡ true) × IsWithin v p × AreLaidFrom (n + 1) v ps

-- a book whose rows can be laid out
pub record IsLaidOut (v : Version) (terms : List Rates) (pledges : List RawPledge) : Type 0 where
  pub few_terms : length terms ≤ most_terms
  pub few_pledges : length pledges ≤ most_pledges
  pub laid : AreLaidFrom 1 v pledges

-- the rows of a laid-out book: the counts, the terms by version, and the pledges by number
abbrev pub laid_rows : Version → List Rates → List RawPledge → List Row
laid_rows v terms pledges = Row.Book v (length terms) (length pledges) ∷ (terms_rows 1 terms ++ flat_map raw_rows pledges)

-- the laws below are about rows of a text of version `v` that are accepted one after another

-- rows that are laid out are accepted to their end
abbrev pub LayoutsAreTaken : Type 0
LayoutsAreTaken =
    (v : Version) (terms : List Rates) (pledges : List RawPledge) → IsLaidOut v terms pledges
    → (b : Begun) × (run None (laid_rows v terms pledges) ≡ Ok (Some b)) × (is_whole (Some b) ≡ true) × (b.terms ≡ terms) × (pledges_begun b ≡ pledges)

-- only rows that are laid out are accepted to their end
abbrev pub TakenAreLaidOut : Type 0
TakenAreLaidOut =
    (rows : List Row) (b : Begun) → run None rows ≡ Ok (Some b) → is_whole (Some b) ≡ true
    → IsLaidOut b.version b.terms (pledges_begun b) × (rows ≡ laid_rows b.version b.terms (pledges_begun b))

-- a row is refused only if no further rows can complete a book with the rows up to it
abbrev pub RefusedAreNoFront : Type 0
RefusedAreNoFront =
    (rows more : List Row) (c : Cause) (v : Version) (terms : List Rates) (pledges : List RawPledge)
    → run None rows ≡ Err c → IsLaidOut v terms pledges → rows ++ more ≡ laid_rows v terms pledges → ⊥

-- a row that exceeds a limit: a count of the book is too high, or a list of the pledge at hand is full
abbrev pub IsAboveALimit : Option Begun → Row → Type 0
IsAboveALimit s (Row.Book v terms pledges) = (most_terms < terms) ⊎ (most_pledges < pledges)
IsAboveALimit s (Row.Secret number place x) = (b : Begun) × (p : RawPledge) × (s ≡ Some b) × (b.at_hand ≡ Some p) × (most_secrets ≤ length p.secrets)
IsAboveALimit s (Row.Entry number x) = (b : Begun) × (p : RawPledge) × (s ≡ Some b) × (b.at_hand ≡ Some p) × (most_entries ≤ length p.entries)
IsAboveALimit s (Row.Extension number place x) = (b : Begun) × (p : RawPledge) × (s ≡ Some b) × (b.at_hand ≡ Some p) × (most_extensions ≤ length p.extensions)
IsAboveALimit s (Row.Terms v x) = ⊥
IsAboveALimit s (Row.Pledge x) = ⊥
IsAboveALimit s (Row.Booking number x) = ⊥

-- only a row that exceeds a limit is refused with `TooMany`
abbrev pub TooManyIsAboveALimit : Type 0
TooManyIsAboveALimit = (s : Option Begun) (r : Row) → accept s r ≡ Err Cause.TooMany → IsAboveALimit s r

-- rows that are laid out are refused with `NotReplayable` if and only if no replayable book has these rows
abbrev pub NotReplayableIsOfNoBook : Type 0
NotReplayableIsOfNoBook =
    (v : Version) (terms : List Rates) (pledges : List RawPledge) (s : Option Begun) → IsLaidOut v terms pledges → run None (laid_rows v terms pledges) ≡ Ok s
    → RefusesEnd s Cause.NotReplayable ↔ ((k : BookRows) → AreReplayable k.terms k.pledges → Knows v k → laid_rows v terms pledges ≢ book_csv_rows v k)
