-- The first elements of a list, if the elements that follow each of them are known.
use Rattle.pawn_tables.proofs.Basics.{cond_both, map-append}
use Rattle.pawn_tables.specs.Common.{last_element, Each}
use Rattle.pawn_tables.specs.Pages.{most_page_rows, IsPage, page_end}
use Rattle.std.proofs.Common.{◌≡◌, ◌++◌, ℕ, zero, suc, ◌-◌, ◌<◌, List, [], ◌∷◌, length, map, take, slice_get, Bool}
use Rattle.std.proofs.Common.{filter, Some, refl, sym, ap, subst, ◌∙◌, arith, option_map, unwrap_or, length-take}
use Rattle.std.proofs.Common.{map-id}

pub last_later : {A : Type 0} (x y : A) (ys : List A) → last_element (x ∷ y ∷ ys) ≡ last_element (y ∷ ys)
last_later x y ys = let up : length (x ∷ y ∷ ys) - 1 ≡ suc (length ys) = omega arith in
    let low : length (y ∷ ys) - 1 ≡ length ys = omega arith in
    ap (slice_get (x ∷ y ∷ ys)) up ∙ ap (slice_get (y ∷ ys)) (sym low)

pub last_some : {A : Type 0} (x : A) (ys : List A) → (y : A) × (last_element (x ∷ ys) ≡ Some y)
last_some x [] = (x, refl)
last_some x (y ∷ ys) = let last = last_some y ys in (last.0, last_later x y ys ∙ last.1)

-- a page ends where it does, wherever it began
end_after : {A : Type 0} (behind : A → ℕ) (n : ℕ) (x : A) (ys : List A) → page_end behind n (x ∷ ys) ≡ page_end behind (behind x) ys
end_after behind n x [] = refl
end_after behind n x (y ∷ ys) = let last = last_some y ys in
    ap (λ o. unwrap_or (option_map behind o) n) (last_later x y ys ∙ last.1) ∙ sym (ap (λ o. unwrap_or (option_map behind o) (behind x)) last.1)

module _ {A : Type 0} (left : ℕ → List A) (behind : A → ℕ) (step : (n : ℕ) (x : A) (more : List A) → left n ≡ x ∷ more → left (behind x) ≡ more) where
  -- the elements after the first ones
  pub page_left : (k n : ℕ) → left n ≡ take k (left n) ++ left (page_end behind n (take k (left n)))
  page_left zero n = refl
  page_left (suc k) n = go (λ m. page_left k m) (left n) refl where
    go : ((m : ℕ) → left m ≡ take k (left m) ++ left (page_end behind m (take k (left m)))) → (xs : List A) → left n ≡ xs
        → left n ≡ take (suc k) xs ++ left (page_end behind n (take (suc k) xs))
    go rest [] is = refl
    go rest (x ∷ more) is = let then = step n x more is in
        is ∙ ap (λ l. x ∷ l) (subst (λ l. l ≡ take k l ++ left (page_end behind (behind x) (take k l))) then (rest (behind x))
        ∙ ap (λ m. take k more ++ left m) (sym (end_after behind n x (take k more))))

  -- nothing is, where they are fewer
  pub page_last : (k n : ℕ) → length (take k (left n)) < k → left (page_end behind n (take k (left n))) ≡ []
  page_last zero n short = absurd (omega (arith, short))
  page_last (suc k) n short = go (λ m. page_last k m) (left n) refl short where
    go : ((m : ℕ) → length (take k (left m)) < k → left (page_end behind m (take k (left m))) ≡ []) → (xs : List A) → left n ≡ xs
        → length (take (suc k) xs) < suc k → left (page_end behind n (take (suc k) xs)) ≡ []
    go rest [] is short = is
    go rest (x ∷ more) is short = let then = step n x more is in
        ap left (end_after behind n x (take k more))
        ∙ subst (λ l. length (take k l) < k → left (page_end behind (behind x) (take k l)) ≡ []) then (rest (behind x)) (omega (arith, short))

  pub is_page : (n : ℕ) → IsPage left (λ (x : A). x) behind n (take most_page_rows (left n))
  is_page n = record {
    few = let len = length-take most_page_rows (left n) in omega (arith, len);
    goes_on = page_left most_page_rows n ∙ ap (λ l. l ++ left (page_end behind n (take most_page_rows (left n)))) (sym (map-id (take most_page_rows (left n))));
    is_last = page_last most_page_rows n;
  }

-- the same, of what is shown of the elements
pub page_as : {A B : Type 0} (left : ℕ → List A) (shown : ℕ → List B) (shows : A → B) (behind : A → ℕ) (n : ℕ) (page : List A)
    → ((m : ℕ) → shown m ≡ map shows (left m)) → IsPage left (λ (x : A). x) behind n page → IsPage shown shows behind n page
page_as left shown shows behind n page is at = record {
  few = at.few;
  goes_on = is n ∙ ap (map shows) (at.goes_on ∙ ap (λ l. l ++ left (page_end behind n page)) (map-id page))
      ∙ map-append shows page (left (page_end behind n page)) ∙ ap (λ l. map shows page ++ l) (sym (is (page_end behind n page)));
  is_last = λ short. is (page_end behind n page) ∙ ap (map shows) (at.is_last short);
}

-- ---- what holds of each element

pub take_each : {A : Type 0} (P : A → Type 0) (k : ℕ) (xs : List A) → Each P xs → Each P (take k xs)
take_each P zero xs all = tt
take_each P (suc k) [] all = tt
take_each P (suc k) (x ∷ xs) all = (all.0, take_each P k xs all.1)

pub filter_each : {A : Type 0} (P : A → Type 0) (test : A → Bool) (xs : List A) → Each P xs → Each P (filter test xs)
filter_each P test [] all = tt
filter_each P test (x ∷ xs) all = let rest = filter_each P test xs all.1 in cond_both (test x) _ _ (Each P) (λ e. (all.0, rest)) (λ e. rest)

pub map_each : {A B : Type 0} (P : B → Type 0) (f : A → B) (xs : List A) → ((x : A) → P (f x)) → Each P (map f xs)
map_each P f [] all = tt
map_each P f (x ∷ xs) all = (all x, map_each P f xs all)
