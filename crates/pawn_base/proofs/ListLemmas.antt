-- Properties of every element of a list, and lists along which a number does not decrease.
use Rattle.pawn_base.specs.Lists.{DoNotFall, Each, last_by}
use Rattle.std.proofs.Common.{◌≡◌, ◌∙◌, ℕ, zero, suc, ◌≤◌, List, [], ◌∷◌, ◌++◌, length, length-append, take, slice_get}
use Rattle.std.proofs.Common.{Some, None, refl, ap, arith}

infixr 5 ◌&◌
-- a property of the first element and of all elements after it
pub ◌&◌ : {A B : Type 0} → A → B → A × B
a & b = (a, b)

pub last_by-le : {A : Type 0} (f : A → ℕ) (n : ℕ) (xs : List A) → DoNotFall f n xs → n ≤ last_by f n xs
last_by-le f n [] h = omega arith
last_by-le f n (x ∷ xs) h = omega (arith, h.0, last_by-le f (f x) xs h.1)

pub last_by-push : {A : Type 0} (f : A → ℕ) (n : ℕ) (xs : List A) (x : A) → last_by f n (xs ++ x ∷ []) ≡ f x
last_by-push f n [] x = refl
last_by-push f n (y ∷ ys) x = last_by-push f (f y) ys x

pub DoNotFall-push : {A : Type 0} (f : A → ℕ) (n : ℕ) (xs : List A) (x : A) → DoNotFall f n xs → last_by f n xs ≤ f x → DoNotFall f n (xs ++ x ∷ [])
DoNotFall-push f n [] x h late = (late, tt)
DoNotFall-push f n (y ∷ ys) x h late = (h.0, DoNotFall-push f (f y) ys x h.1 late)

pub Each-push : {A : Type 0} (P : A → Type 0) (xs : List A) (x : A) → Each P xs → P x → Each P (xs ++ x ∷ [])
Each-push P [] x h last = (last, tt)
Each-push P (y ∷ ys) x h last = (h.0, Each-push P ys x h.1 last)

pub Each-map : {A : Type 0} (P Q : A → Type 0) (xs : List A) → ((x : A) → P x → Q x) → Each P xs → Each Q xs
Each-map P Q [] f h = tt
Each-map P Q (x ∷ xs) f h = (f x h.0, Each-map P Q xs f h.1)

-- a property of all elements is one of each element
pub Each-all : {A : Type 0} (P : A → Type 0) (xs : List A) → ((x : A) → P x) → Each P xs
Each-all P [] f = tt
Each-all P (x ∷ xs) f = (f x, Each-all P xs f)

-- a number that does not decrease lies between that of the first and that of the last element
pub DoNotFall-each : {A : Type 0} (f : A → ℕ) (low n high : ℕ) (xs : List A) → low ≤ n → DoNotFall f n xs → last_by f n xs ≤ high
    → Each (λ x. (low ≤ f x) × (f x ≤ high)) xs
DoNotFall-each f low n high [] after h before = tt
DoNotFall-each f low n high (x ∷ xs) after h before =
    ((omega (arith, after, h.0), omega (arith, last_by-le f (f x) xs h.1, before)), DoNotFall-each f low (f x) high xs (omega (arith, after, h.0)) h.1 before)

pub take_whole : {T : Type 0} (xs : List T) → take (length xs) xs ≡ xs
take_whole [] = refl
take_whole (x ∷ xs) = ap (λ (ys : List _). x ∷ ys) (take_whole xs)

pub take_each : {T : Type 0} (xs : List T) (i : ℕ) → i ≡ length xs → take i xs ≡ xs
take_each xs i all = ap (λ (k : ℕ). take k xs) all ∙ take_whole xs

pub take_next : {A : Type 0} (xs : List A) (i : ℕ) (x : A) → slice_get xs i ≡ Some x → take (suc i) xs ≡ take i xs ++ x ∷ []
take_next [] i x at = absurd (let e = at in cc)
take_next (y ∷ xs) zero x at = let same : y ≡ x = (let e = at in cc) in ap (λ z. z ∷ []) same
take_next (y ∷ xs) (suc i) x at = ap (λ l. y ∷ l) (take_next xs i x at)

take_nothing : {A : Type 0} (n : ℕ) → ◌≡◌ {A = List A} (take n []) []
take_nothing zero = refl
take_nothing (suc n) = refl

pub take_past : {A : Type 0} (xs : List A) (i : ℕ) → slice_get xs i ≡ None → take i xs ≡ xs
take_past [] i none = take_nothing i
take_past (y ∷ xs) zero none = absurd (let e = none in cc)
take_past (y ∷ xs) (suc i) none = ap (λ l. y ∷ l) (take_past xs i none)

pub no_elements : {A : Type 0} (xs : List A) → length xs ≡ 0 → xs ≡ []
no_elements [] h = refl
no_elements (x ∷ xs) h = absurd (omega (arith, h))

pub grown : {A : Type 0} (xs : List A) (x : A) → xs ++ x ∷ [] ≡ xs → ⊥
grown xs x is = let long = ap length is in let more = length-append xs (x ∷ []) in absurd (omega (arith, long, more))
