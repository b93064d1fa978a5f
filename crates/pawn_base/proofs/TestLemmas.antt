-- What the results of tests on numbers and Booleans prove.
use Rattle.std.proofs.Common.{◌≡◌, ℕ, ◌<◌, ◌≤◌, ◌==◌, ◌&&◌, Bool, true, false, refl, arith}
use Rattle.std.proofs.lemmas.Bool.Decides.{nat_tests}
use Rattle.std.specs.Ordering.{is_eq, is_lt, nat_cmp}
use Rattle.std.specs.Prelude.{T, nat_le, nat_lt}

pub equal : (n m : ℕ) → n ≡ m → (n == m) ≡ true
equal n m e = grind (arith, nat_tests, e)

-- tests on numbers
pub not_below : (a b : ℕ) → nat_lt a b ≡ false → b ≤ a
not_below a b h = grind (arith, nat_tests, h)

pub not_most : (a b : ℕ) → nat_le a b ≡ false → b < a
not_most a b h = grind (arith, nat_tests, h)

pub unequal : (a b : ℕ) → b < a → (a == b) ≡ false
unequal a b h = grind (arith, nat_tests)

pub equal_itself : (n : ℕ) → (n == n) ≡ true
equal_itself n = grind (arith, nat_tests)

pub both_told : (a b : Bool) → T (a && b) → T a × T b
both_told true b h = (tt, h)
both_told false b h = absurd h

pub told : (b : Bool) → T b → b ≡ true
told true h = refl
told false h = absurd h

pub below : (m n : ℕ) → T (is_lt (nat_cmp m n)) → m < n
below m n h = let e = told _ h in grind (arith, nat_tests, e)

pub same_key : (m n : ℕ) → is_eq (nat_cmp n m) ≡ true → n ≡ m
same_key m n h = grind (arith, nat_tests, h)
