-- Columns, followed by empty ones.
use Rattle.pawn_csv.proofs.Basics.{◌≡◌, ◌∙◌, ◌≤◌, ◌<◌, ◌+◌, ◌-◌, ℕ, zero, suc, List, [], ◌∷◌, ◌++◌, length, take, set}
use Rattle.pawn_csv.proofs.Basics.{get_or, ap, arith, subst}
use Rattle.pawn_csv.specs.Rows.{empty_columns}
use Rattle.pawn_csv.specs.Spelling.{texts_of}
use Rattle.std.proofs.lemmas.List.{map-set}
use Rattle.std.specs.Borrow.{Bor}

more_padded : (row texts : List (List ℕ)) (i n : ℕ) (x : List ℕ) → i < length texts → x ≡ get_or texts i [] → row ≡ take i texts ++ empty_columns (suc n)
    → set row i x ≡ take (suc i) texts ++ empty_columns n
more_padded row [] i n x inside so is = absurd (omega (arith, inside))
more_padded [] (t ∷ ts) zero n x inside so is = absurd (omega (arith, ap length is))
more_padded (r ∷ rs) (t ∷ ts) zero n x inside so is =
    let rest : rs ≡ empty_columns n = cc in ap (λ (y : List ℕ). y ∷ rs) so ∙ ap (λ (xs : List (List ℕ)). t ∷ xs) rest
more_padded [] (t ∷ ts) (suc i) n x inside so is = absurd (omega (arith, ap length is))
more_padded (r ∷ rs) (t ∷ ts) (suc i) n x inside so is =
    let first : r ≡ t = cc in
    let rest : rs ≡ take i ts ++ empty_columns (suc n) = cc in
    ap (λ (y : List ℕ). y ∷ set rs i x) first
    ∙ ap (λ (xs : List (List ℕ)). t ∷ xs) (more_padded rs ts i n x (omega (arith, inside)) so rest)

-- one column more in the place of the first empty one
pub next_padded : (row : List (Bor (List ℕ))) (texts : List (List ℕ)) (i most : ℕ) (column : Bor (List ℕ)) → i < length texts → length texts ≤ most
    → column.now ≡ get_or texts i [] → texts_of row ≡ take i texts ++ empty_columns (most - i)
    → texts_of (set row i column) ≡ take (i + 1) texts ++ empty_columns (most - (i + 1))
next_padded row texts i most column inside few so is =
    let further : suc i ≡ i + 1 = omega arith in
    let left : most - i ≡ suc (most - (i + 1)) = omega (arith, inside, few) in
    map-set (λ (c : Bor (List ℕ)). c.now) row i column
    ∙ subst (λ (j : ℕ). set (texts_of row) i column.now ≡ take j texts ++ empty_columns (most - (i + 1))) further
    (more_padded (texts_of row) texts i (most - (i + 1)) column.now inside so
    (subst (λ (k : ℕ). texts_of row ≡ take i texts ++ empty_columns k) left is))
