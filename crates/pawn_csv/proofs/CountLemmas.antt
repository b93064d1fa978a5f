-- Rows that are read one by one from the keeper: the terms of a book.
use Rattle.pawn_book.proofs.Places.{terms_at_place}
use Rattle.pawn_csv.proofs.Basics.{◌≡◌, ◌∙◌, ℕ, ◌+◌, ◌<◌, zero, suc, List, [], ◌∷◌, ◌++◌, length}
use Rattle.pawn_csv.proofs.Basics.{take, Option, Some, None, refl, sym, ap, subst, arith, append_assoc}
use Rattle.pawn_csv.proofs.Basics.{slice_get, unwrap_or, append-nil}
use Rattle.pawn_csv.proofs.Basics.{share_front, share_more, share_puts, share_then, take_each}
use Rattle.pawn_csv.proofs.SentLemmas.{rows_in_turn}
use Rattle.pawn_csv.specs.Common.{Front, Rates, Whole}
use Rattle.pawn_csv.specs.Common.{flat_map, terms_at}
use Rattle.pawn_csv.specs.Rows.{terms_rows}
use Rattle.pawn_csv.specs.Sent.{PutsRow, PutsRowsShare, text_of_row}
use Rattle.pawn_csv.specs.Types.{Row, Sink}

-- ---- as many rows as are read one by one

-- the rows of a list from a place on
abbrev pub lines_from : {T : Type 0} → (ℕ → ℕ → T → List ℕ) → ℕ → ℕ → List T → List ℕ
lines_from line number place [] = []
lines_from line number place (x ∷ xs) = line number place x ++ lines_from line number (place + 1) xs

-- one row more
pub lines_more : {T : Type 0} (line : ℕ → ℕ → T → List ℕ) (number place : ℕ) (xs : List T) (i : ℕ) (x : T) → slice_get xs i ≡ Some x
    → lines_from line number place (take (i + 1) xs) ≡ lines_from line number place (take i xs) ++ line number (place + i) x
lines_more line number place [] i x at = cc
lines_more line number place (y ∷ xs) zero x at =
    let same : place ≡ place + 0 = omega arith in
    append-nil (line number place y) ∙ ap (λ (o : Option _). line number place (unwrap_or o y)) at ∙ ap (λ (k : ℕ). line number k x) same
lines_more line number place (y ∷ xs) (suc i) x at =
    let further : suc i + 1 ≡ suc (i + 1) = omega arith in
    let next : (place + 1) + i ≡ place + suc i = omega arith in
    ap (λ (k : ℕ). lines_from line number place (take k (y ∷ xs))) further ∙ ap (λ (t : List ℕ). line number place y ++ t)
    (lines_more line number (place + 1) xs i x at ∙ ap (λ (k : ℕ). lines_from line number (place + 1) (take i xs) ++ line number k x) next)
    ∙ sym (append_assoc (line number place y) (lines_from line number (place + 1) (take i xs)) (line number (place + suc i) x))

-- a prefix of the rows, and the rest of them
pub lines_cut : {T : Type 0} (line : ℕ → ℕ → T → List ℕ) (number place : ℕ) (xs : List T) (i : ℕ)
    → (rest : List ℕ) × (lines_from line number place (take i xs) ++ rest ≡ lines_from line number place xs)
lines_cut line number place [] zero = ([], refl)
lines_cut line number place [] (suc i) = ([], refl)
lines_cut line number place (y ∷ xs) zero = (lines_from line number place (y ∷ xs), refl)
lines_cut line number place (y ∷ xs) (suc i) =
    let more = lines_cut line number (place + 1) xs i in
    (more.0, append_assoc (line number place y) (lines_from line number (place + 1) (take i xs)) more.0 ∙ ap (λ (t : List ℕ). line number place y ++ t) more.1)

-- an element at a place within the list exists
pub stands_there : {T : Type 0} (xs : List T) (i : ℕ) → i < length xs → slice_get xs i ≡ None → ⊥
stands_there [] i less none = absurd (omega (arith, less))
stands_there (x ∷ xs) zero less none = cc
stands_there (x ∷ xs) (suc i) less none = stands_there xs i (omega (arith, less)) none

-- a prefix that was written, while the rest is not
pub front_share : {W T : Type 0} {contents : W → Option (List ℕ)} {a b : Sink W} (line : ℕ → ℕ → T → List ℕ) (number place : ℕ) (xs : List T) (i : ℕ)
    → PutsRowsShare contents a (lines_from line number place (take i xs)) Whole b → PutsRowsShare contents a (lines_from line number place xs) Front b
front_share {contents = contents} {a = a} {b = b} line number place xs i share =
    let cut = lines_cut line number place xs i in
    subst (λ (t : List ℕ). PutsRowsShare contents a t Front b) cut.1 (share_more rows_in_turn cut.0 (share_front rows_in_turn share))

-- a prefix, and the next row
pub next_share : {W T : Type 0} {contents : W → Option (List ℕ)} {a b c : Sink W} (line : ℕ → ℕ → T → List ℕ) (number place : ℕ) (xs : List T) (i : ℕ) (x : T)
    → slice_get xs i ≡ Some x → PutsRowsShare contents a (lines_from line number place (take i xs)) Whole b
    → PutsRowsShare contents b (line number (place + i) x) Whole c → PutsRowsShare contents a (lines_from line number place (take (i + 1) xs)) Whole c
next_share {contents = contents} {a = a} {c = c} line number place xs i x at before share =
    subst (λ (t : List ℕ). PutsRowsShare contents a t Whole c) (sym (lines_more line number place xs i x at)) (share_then rows_in_turn before share)

-- all of them
pub all_share : {W T : Type 0} {contents : W → Option (List ℕ)} {a b : Sink W} (line : ℕ → ℕ → T → List ℕ) (number place : ℕ) (xs : List T) (i : ℕ)
    → i ≡ length xs → PutsRowsShare contents a (lines_from line number place (take i xs)) Whole b
    → PutsRowsShare contents a (lines_from line number place xs) Whole b
all_share {contents = contents} {a = a} {b = b} line number place xs i all share =
    subst (λ (ys : List _). PutsRowsShare contents a (lines_from line number place ys) Whole b) (take_each xs i all) share

-- ---- the terms of a book

-- the row of a version of the terms
abbrev pub version_line : ℕ → ℕ → Rates → List ℕ
version_line number version rates = text_of_row (Row.Terms version rates)

pub version_lines : (version : ℕ) (ts : List Rates) → lines_from version_line 0 version ts ≡ flat_map text_of_row (terms_rows version ts)
version_lines version [] = refl
version_lines version (t ∷ ts) = ap (λ (x : List ℕ). version_line 0 version t ++ x) (version_lines (version + 1) ts)

-- ---- the versions of the terms, one by one

pub versions_front : {W : Type 0} {contents : W → Option (List ℕ)} {a b : Sink W} (ts : List Rates) (i : ℕ)
    → PutsRowsShare contents a (lines_from version_line 0 1 (take i ts)) Whole b → PutsRowsShare contents a (flat_map text_of_row (terms_rows 1 ts)) Front b
versions_front {contents = contents} {a = a} {b = b} ts i share =
    subst (λ (t : List ℕ). PutsRowsShare contents a t Front b) (version_lines 1 ts) (front_share version_line 0 1 ts i share)

pub versions_next : {W : Type 0} {contents : W → Option (List ℕ)} {a b c : Sink W} (ts : List Rates) (i : ℕ) (rates : Rates) → Some rates ≡ terms_at ts (i + 1)
    → PutsRowsShare contents a (lines_from version_line 0 1 (take i ts)) Whole b → PutsRow contents b (text_of_row (Row.Terms (i + 1) rates)) c
    → PutsRowsShare contents a (lines_from version_line 0 1 (take (i + 1) ts)) Whole c
versions_next {contents = contents} {b = b} {c = c} ts i rates at before puts =
    let next : i + 1 ≡ 1 + i = omega arith in
    next_share version_line 0 1 ts i rates (sym (at ∙ terms_at_place ts i)) before
    (share_puts rows_in_turn (subst (λ (k : ℕ). PutsRow contents b (text_of_row (Row.Terms k rates)) c) next puts))

pub versions_all : {W : Type 0} {contents : W → Option (List ℕ)} {a b : Sink W} (ts : List Rates) (i : ℕ) → i ≡ length ts
    → PutsRowsShare contents a (lines_from version_line 0 1 (take i ts)) Whole b → PutsRowsShare contents a (flat_map text_of_row (terms_rows 1 ts)) Whole b
versions_all {contents = contents} {a = a} {b = b} ts i all share =
    subst (λ (t : List ℕ). PutsRowsShare contents a t Whole b) (version_lines 1 ts) (all_share version_line 0 1 ts i all share)
