-- The rows of pledges that are passed to a row writer, written one by one.
use Rattle.pawn_book.specs.Items.{booking_items, entry_items, extension_items, pledge_item, items_of_pledge}
use Rattle.pawn_book.specs.Items.{rows_of_pledges, secret_items}
use Rattle.pawn_book.specs.declared.items.RowItem.{RowItem}
use Rattle.pawn_csv.proofs.Basics.{◌≡◌, ◌∙◌, ℕ, ◌+◌, Bool, false, List, [], ◌∷◌, ◌++◌, map, Option, Some, None, refl, sym}
use Rattle.pawn_csv.proofs.Basics.{ap, subst, inl, inr, if◌then◌else◌, append-nil, flat_map-append}
use Rattle.pawn_csv.proofs.SentLemmas.{puts_nil, puts_then}
use Rattle.pawn_csv.specs.Common.{Booking, End, Entry, Extension, Flow, Go, Handed, IsShare, Issued, PledgeValue, Stop}
use Rattle.pawn_csv.specs.Common.{flat_map}
use Rattle.pawn_csv.specs.Exports.{PutsRowItem, csv_row}
use Rattle.pawn_csv.specs.Rows.{booking_csv_rows, entry_rows, extension_rows, pledge_csv_rows, secret_rows}
use Rattle.pawn_csv.specs.Sent.{PutsRow, PutsRowsShare, has_ended, text_of_row}
use Rattle.pawn_csv.specs.Types.{RowWriter}
use Rattle.std.proofs.lemmas.List.{map-append}

-- the text of a row
abbrev pub line : RowItem → List ℕ
line i = text_of_row (csv_row i)

-- the rows of the items that were passed were written
items_put : {W : Type 0} (contents : W → Option (List ℕ)) (v w : RowWriter W) (xs : List RowItem) (flow : Flow) → Handed (PutsRowItem contents) v xs flow w
    → PutsRow contents v.sink (flat_map line xs) w.sink
items_put contents v w [] flow handed = subst (λ (u : RowWriter _). PutsRow contents v.sink [] u.sink) handed.1 (puts_nil contents v.sink)
items_put contents v w (x ∷ xs) flow handed = elim handed [
  | inl going ↦ puts_then going.1.puts (items_put contents going.0 w xs flow going.2)
  | inr stopped ↦ subst (λ (ys : List RowItem). PutsRow contents v.sink (line x ++ flat_map line ys) w.sink) (sym stopped.1)
      (subst (λ (t : List ℕ). PutsRow contents v.sink t w.sink) (sym (append-nil (line x))) stopped.2.puts)
]

-- a writer that has not failed never stopped
never_stopped : {W : Type 0} (contents : W → Option (List ℕ)) (v w : RowWriter W) (xs : List RowItem) (flow : Flow)
    → Handed (PutsRowItem contents) v xs flow w → has_ended w.sink ≡ false → flow ≡ Go
never_stopped contents v w [] flow handed fine = handed.0
never_stopped contents v w (x ∷ xs) flow handed fine = elim handed [
  | inl going ↦ never_stopped contents going.0 w xs flow going.2 fine
  | inr stopped ↦ stopped.0 ∙ stopped.2.flow_is ∙ ap (λ (b : Bool). if b then Stop else Go) fine
]

-- which rows were written of a list whose items were passed to the writer
items_share : {W : Type 0} (contents : W → Option (List ℕ)) (v w : RowWriter W) (given items : List RowItem) (flow : Flow) (end : End)
    → Handed (PutsRowItem contents) v given flow w → IsShare given flow end items → PutsRowsShare contents v.sink (flat_map line items) end w.sink
items_share contents v w given items flow end handed (left, whole, all) = (
  flat_map line given,
  flat_map line left,
  sym (flat_map-append line given left) ∙ ap (flat_map line) whole,
  items_put contents v w given flow handed,
  λ fine done. ap (flat_map line) (all (never_stopped contents v w given flow handed fine) done),
)

-- ---- the rows of pledges are those of the book's text

secrets_are : (number place : ℕ) (is : List Issued) → map csv_row (secret_items number place is) ≡ secret_rows number place is
secrets_are number place [] = refl
secrets_are number place (i ∷ is) = ap (λ l. csv_row (RowItem.Secret number place i) ∷ l) (secrets_are number (place + 1) is)

entries_are : (number : ℕ) (es : List Entry) → map csv_row (entry_items number es) ≡ entry_rows number es
entries_are number [] = refl
entries_are number (e ∷ es) = ap (λ l. csv_row (RowItem.Entry number e) ∷ l) (entries_are number es)

extensions_are : (number place : ℕ) (es : List Extension) → map csv_row (extension_items number place es) ≡ extension_rows number place es
extensions_are number place [] = refl
extensions_are number place (e ∷ es) = ap (λ l. csv_row (RowItem.Extension number place e) ∷ l) (extensions_are number (place + 1) es)

booking_is : (number : ℕ) (o : Option Booking) → map csv_row (booking_items number o) ≡ booking_csv_rows number o
booking_is number None = refl
booking_is number (Some b) = refl

rows_are : (p : PledgeValue) → map csv_row (items_of_pledge p) ≡ pledge_csv_rows p
rows_are p =
    let n = p.agreement.number in
    let ss = secret_items n 1 p.secrets in
    let es = entry_items n p.entries in
    let xs = extension_items n 1 p.extensions in
    let ks = booking_items n p.standing.booking in
    ap (λ l. csv_row (RowItem.Pledge (pledge_item p)) ∷ l) (map-append csv_row ss (es ++ (xs ++ ks)) ∙ ap (λ l. map csv_row ss ++ l) (map-append csv_row es
    (xs ++ ks)
    ∙ ap (λ l. map csv_row es ++ l) (map-append csv_row xs ks)) ∙ (λ i. secrets_are n 1 p.secrets i ++ (entries_are n p.entries i
    ++ (extensions_are n 1 p.extensions i ++ booking_is n p.standing.booking i))))

lines_of : (xs : List RowItem) → flat_map line xs ≡ flat_map text_of_row (map csv_row xs)
lines_of [] = refl
lines_of (x ∷ xs) = ap (λ (t : List ℕ). line x ++ t) (lines_of xs)

all_rows : (ps : List PledgeValue) → flat_map line (rows_of_pledges ps) ≡ flat_map text_of_row (flat_map pledge_csv_rows ps)
all_rows [] = refl
all_rows (p ∷ ps) = flat_map-append line (items_of_pledge p) (rows_of_pledges ps) ∙ (λ i. flat_map line (items_of_pledge p) ++ all_rows ps i)
    ∙ ap (λ (t : List ℕ). t ++ flat_map text_of_row (flat_map pledge_csv_rows ps)) (lines_of (items_of_pledge p) ∙ ap (flat_map text_of_row) (rows_are p))
    ∙ sym (flat_map-append text_of_row (pledge_csv_rows p) (flat_map pledge_csv_rows ps))

-- which rows were written of a book's pledges
pub pledges_share : {W : Type 0} (contents : W → Option (List ℕ)) (v w : RowWriter W) (given : List RowItem) (ps : List PledgeValue) (flow : Flow) (end : End)
    → Handed (PutsRowItem contents) v given flow w → IsShare given flow end (rows_of_pledges ps)
    → PutsRowsShare contents v.sink (flat_map text_of_row (flat_map pledge_csv_rows ps)) end w.sink
pledges_share contents v w given ps flow end handed share = subst (λ (t : List ℕ). PutsRowsShare contents v.sink t end w.sink) (all_rows ps)
    (items_share contents v w given (rows_of_pledges ps) flow end handed share)
