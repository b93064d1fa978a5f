-- Rows from their columns.
use Rattle.pawn_csv.proofs.Basics.{◌≡◌, ◌∙◌, ◌<◌, ◌-◌, ◌+◌, ℕ, zero, suc, List, [], ◌∷◌, length, ap, arith, codes, drop}
use Rattle.pawn_csv.proofs.Basics.{get_or, replicate, subst, sym, take}
use Rattle.pawn_csv.specs.Common.{Booking, Entry, Extension, Issued, Rates}
use Rattle.pawn_csv.specs.Reading.{IsNoRow}
use Rattle.pawn_csv.specs.Rows.{FitsColumns, row_fields}
use Rattle.pawn_csv.specs.Spelling.{column_at, texts_of}
use Rattle.pawn_csv.specs.Types.{Row, Version}
use Rattle.std.proofs.Math.ListN.{get_or-map}
use Rattle.std.proofs.Math.Seq.{drop-cons}
use Rattle.std.proofs.lemmas.List.{drop_all, drop-map, get_or-drop, get_or-replicate, get_or-take, length-drop}
use Rattle.std.proofs.lemmas.List.{length-map, length-replicate, length-take, get_or-map as get_or_inside-map}
use Rattle.std.specs.Borrow.{Bor}
use Rattle.std.specs.Prelude.{All}

-- ---- columns that a pattern names

-- what a pattern has for a column after the last
abbrev pub nothing : Bor (List ℕ)
nothing = record { ref_ptr = (0, 0); now = [] }

pub named : (columns : List (Bor (List ℕ))) (place : ℕ) → column_at (texts_of columns) place ≡ (get_or columns place nothing).now
named columns place = get_or-map (λ (c : Bor (List ℕ)). c.now) columns place nothing

-- a column of a record that is known
pub spelled_at : (columns : List (Bor (List ℕ))) (place : ℕ) {fs : List (List ℕ)} → texts_of columns ≡ fs
    → (get_or columns place nothing).now ≡ column_at fs place
spelled_at columns place {fs = fs} is = sym (named columns place) ∙ ap (λ (f : List (List ℕ)). column_at f place) is

-- ---- columns that make a record

-- the columns from a place on are these
abbrev pub Follow : List (List ℕ) → ℕ → List (List ℕ) → Type 0
Follow fs place [] = Unit {0}
Follow fs place (x ∷ xs) = (column_at fs place ≡ x) × Follow fs (suc place) xs

left_are : (fs : List (List ℕ)) (place : ℕ) (xs : List (List ℕ)) → length fs ≡ place + length xs → Follow fs place xs → drop place fs ≡ xs
left_are fs place [] n follow = drop_all place fs (omega (arith, n))
left_are fs place (x ∷ xs) n follow = drop-cons fs place [] (omega (arith, n)) ∙ ap (λ (f : List ℕ). f ∷ drop (suc place) fs) follow.0
    ∙ ap (λ (rest : List (List ℕ)). x ∷ rest) (left_are fs (suc place) xs (omega (arith, n)) follow.1)

-- columns that are known make the record
pub columns_are : (columns : List (Bor (List ℕ))) {xs : List (List ℕ)} → length columns ≡ length xs → Follow (texts_of columns) 0 xs → texts_of columns ≡ xs
columns_are columns {xs = xs} n follow =
    left_are (texts_of columns) 0 xs (omega (arith, n, length-map columns (λ (c : Bor (List ℕ)). c.now))) follow

-- ---- empty columns

-- the columns that a pattern leaves after these many
abbrev pub left_after : ℕ → List (Bor (List ℕ)) → List (Bor (List ℕ))
left_after place columns = take (length columns - place) (drop place columns)

left_at : (columns : List (Bor (List ℕ))) (place k : ℕ) → place + k < length columns
    → column_at (texts_of columns) (place + k) ≡ (get_or (left_after place columns) k nothing).now
left_at columns place k inside = named columns (place + k) ∙ ap (λ (c : Bor (List ℕ)). c.now)
    (sym (get_or-take (length columns - place) (drop place columns) k nothing (omega (arith, inside)) ∙ get_or-drop place columns k nothing))

blank_from : (columns : List (Bor (List ℕ))) (place k n : ℕ) → length columns ≡ place + (k + n) → All (λ c. c.now ≡ []) (left_after place columns)
    → Follow (texts_of columns) (place + k) (replicate n [])
blank_from columns place k zero wide blank = tt
blank_from columns place k (suc n) wide blank =
    let next : place + suc k ≡ suc (place + k) = omega arith in (
      left_at columns place k (omega (arith, wide))
          ∙ blank k nothing (omega (arith, wide, length-take (length columns - place) (drop place columns), length-drop place columns)),
      subst (λ (p : ℕ). Follow (texts_of columns) p (replicate n [])) next (blank_from columns place (suc k) n (omega (arith, wide)) blank),
    )

-- n columns that are left are empty
pub blank_follow : (columns : List (Bor (List ℕ))) (place n : ℕ) → length columns ≡ place + n → All (λ c. c.now ≡ []) (left_after place columns)
    → Follow (texts_of columns) place (replicate n [])
blank_follow columns place n wide blank =
    let first : place + 0 ≡ place = omega arith in
    subst (λ (p : ℕ). Follow (texts_of columns) p (replicate n [])) first (blank_from columns place 0 n (omega (arith, wide)) blank)

-- the columns that are left of a record whose other columns are empty
pub blank_left : (columns : List (Bor (List ℕ))) (place n : ℕ) {fs : List (List ℕ)} → texts_of columns ≡ fs → drop place fs ≡ replicate n []
    → All (λ c. c.now ≡ []) (left_after place columns)
blank_left columns place n {fs = fs} is end k d inside =
    let rest : texts_of (drop place columns) ≡ replicate n [] = sym (drop-map (λ (c : Bor (List ℕ)). c.now) place columns) ∙ ap (drop place) is ∙ end in
    let many : length (drop place columns) ≡ n =
    sym (length-map (drop place columns) (λ (c : Bor (List ℕ)). c.now)) ∙ ap length rest ∙ length-replicate n [] in
    let size = length-take (length columns - place) (drop place columns) in
    let within : k < n = omega (arith, inside, size, many) in
    ap (λ (c : Bor (List ℕ)). c.now) (get_or-take (length columns - place) (drop place columns) k d (omega (arith, inside, size)))
    ∙ sym (get_or_inside-map (λ (c : Bor (List ℕ)). c.now) (drop place columns) k d [] (omega (arith, within, many)))
    ∙ ap (λ (f : List (List ℕ)). get_or f k []) rest ∙ get_or-replicate n k [] [] within

-- ---- columns that are those of no row, by the letter of their kind

first_letter : (fs : List (List ℕ)) (word : List ℕ) (r : Row) → column_at fs 0 ≡ word → fs ≡ row_fields r
    → get_or word 0 0 ≡ get_or (column_at (row_fields r) 0) 0 0
first_letter fs word r is spelled = ap (λ (l : List ℕ). get_or l 0 0) (sym is ∙ ap (λ (f : List (List ℕ)). column_at f 0) spelled)

pub no_book : (fs : List (List ℕ)) → column_at fs 0 ≡ codes "B"
    → ((version : Version) (terms pledges : ℕ) → FitsColumns (Row.Book version terms pledges) → fs ≡ row_fields (Row.Book version terms pledges) → ⊥)
    → IsNoRow fs
no_book fs is none (Row.Book version terms pledges) fits spelled = none version terms pledges fits spelled
no_book fs is none r fits spelled = absurd (omega (arith, first_letter fs (codes "B") r is spelled))

pub no_terms : (fs : List (List ℕ)) → column_at fs 0 ≡ codes "T"
    → ((version : ℕ) (rates : Rates) → FitsColumns (Row.Terms version rates) → fs ≡ row_fields (Row.Terms version rates) → ⊥) → IsNoRow fs
no_terms fs is none (Row.Terms version rates) fits spelled = none version rates fits spelled
no_terms fs is none r fits spelled = absurd (omega (arith, first_letter fs (codes "T") r is spelled))

pub no_secret : (fs : List (List ℕ)) → column_at fs 0 ≡ codes "S"
    → ((number place : ℕ) (issued : Issued) → FitsColumns (Row.Secret number place issued) → fs ≡ row_fields (Row.Secret number place issued) → ⊥) → IsNoRow fs
no_secret fs is none (Row.Secret number place issued) fits spelled = none number place issued fits spelled
no_secret fs is none r fits spelled = absurd (omega (arith, first_letter fs (codes "S") r is spelled))

pub no_entry : (fs : List (List ℕ)) → column_at fs 0 ≡ codes "E"
    → ((number : ℕ) (entry : Entry) → FitsColumns (Row.Entry number entry) → fs ≡ row_fields (Row.Entry number entry) → ⊥) → IsNoRow fs
no_entry fs is none (Row.Entry number entry) fits spelled = none number entry fits spelled
no_entry fs is none r fits spelled = absurd (omega (arith, first_letter fs (codes "E") r is spelled))

pub no_extension : (fs : List (List ℕ)) → column_at fs 0 ≡ codes "X"
    → ((number place : ℕ) (e : Extension) → FitsColumns (Row.Extension number place e) → fs ≡ row_fields (Row.Extension number place e) → ⊥) → IsNoRow fs
no_extension fs is none (Row.Extension number place e) fits spelled = none number place e fits spelled
no_extension fs is none r fits spelled = absurd (omega (arith, first_letter fs (codes "X") r is spelled))

pub no_booking : (fs : List (List ℕ)) → column_at fs 0 ≡ codes "K"
    → ((number : ℕ) (booking : Booking) → FitsColumns (Row.Booking number booking) → fs ≡ row_fields (Row.Booking number booking) → ⊥) → IsNoRow fs
no_booking fs is none (Row.Booking number booking) fits spelled = none number booking fits spelled
no_booking fs is none r fits spelled = absurd (omega (arith, first_letter fs (codes "K") r is spelled))
