-- Properties of every element of a list, and lists along which a number does not decrease.
pub use Rattle.std.specs.List.{AllByRecursion as Each}
use Rattle.std.specs.Prelude.{ℕ, ◌≤◌, List, [], ◌∷◌}

-- `Each` is a property of every element. It is defined by recursion, so that it computes on a list that is given.

-- f does not decrease from one element to the next, and is at least n at the first; defined by recursion, so that it
-- computes on a list that is given
abbrev pub DoNotFall : {A : Type 0} → (A → ℕ) → ℕ → List A → Type 0
DoNotFall f n [] = Unit {0}
DoNotFall f n (x ∷ xs) = (n ≤ f x) × DoNotFall f (f x) xs

-- f of the last element, or n if the list is empty
abbrev pub last_by : {A : Type 0} → (A → ℕ) → ℕ → List A → ℕ
last_by f n [] = n
last_by f n (x ∷ xs) = last_by f (f x) xs
