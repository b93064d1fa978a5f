-- Equal texts compare as equal.
use Rattle.std.proofs.Common.{◌≡◌, ◌∙◌, ℕ, List, [], ◌∷◌, refl, arith, nat_eq, true, false, subst}
use Rattle.std.proofs.lemmas.Bool.Decides.{nat_tests}
use Rattle.std.specs.Cmp.Lexicographic.{pointwise}

same_all : (xs : List ℕ) → pointwise nat_eq xs xs ≡ true
same_all [] = refl
same_all (x ∷ xs) = let e : nat_eq x x ≡ true = grind (arith, nat_tests) in rw e (same_all xs)

pub not_same : (xs ys : List ℕ) → xs ≡ ys → false ≡ pointwise nat_eq xs ys → ⊥
not_same xs ys is differ = let e = differ ∙ subst (λ v. pointwise nat_eq xs v ≡ true) is (same_all xs) in cc
