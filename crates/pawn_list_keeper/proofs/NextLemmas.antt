-- The next book number above another.
use Rattle.pawn_book.proofs.Sounds.{absurd_none}
use Rattle.pawn_list_keeper.specs.Common.{BookValue}
use Rattle.pawn_list_keeper.specs.Listed.{IsLeastAbove, book_at, listed_book}
use Rattle.pawn_list_keeper.specs.declared.kept.Kept.{Kept}
use Rattle.std.proofs.Common.{◌≡◌, ℕ, ◌+◌, ◌<◌, ◌≤◌, List, [], ◌∷◌, ◌++◌, length, map, take, get_or, Some, None, refl}
use Rattle.std.proofs.Common.{◌∙◌, ap, sym, arith, inl, inr, if◌then◌else◌, nat_lt, unwrap_or, ◌&&◌, Option, Bool, true}
use Rattle.std.proofs.Common.{false, ◌==◌, ◌⊎◌, take_all}
use Rattle.std.proofs.lemmas.Bool.Decides.{nat_tests}
use Rattle.std.proofs.lemmas.List.{get_or-map, length-map, take_more}

-- a book that is followed by one more
stands_before : (es : List (ℕ × BookValue)) (e : ℕ × BookValue) (b : ℕ) (book : BookValue) → book_at es b ≡ Some book → book_at (es ++ e ∷ []) b ≡ Some book
stands_before [] e b book is = absurd_none is
stands_before (f ∷ es) e b book is =
    elim (b == f.0) as (λ v. (if v then Some f.1 else book_at es b) ≡ Some book → (if v then Some f.1 else book_at (es ++ e ∷ []) b) ≡ Some book) [
      | true ↦ λ here. here
      | false ↦ λ there. stands_before es e b book there
    ] is

-- the last one stands under its number, or another does
stands_last : (es : List (ℕ × BookValue)) (e : ℕ × BookValue) → (book : BookValue) × (book_at (es ++ e ∷ []) e.0 ≡ Some book)
stands_last [] e = let here : (e.0 == e.0) ≡ true = grind (arith, nat_tests) in (e.1, ap (λ v. if v then Some e.1 else None) here)
stands_last (f ∷ es) e =
    elim (e.0 == f.0) as (λ v. (book : BookValue) × ((if v then Some f.1 else book_at (es ++ e ∷ []) e.0) ≡ Some book)) [
      | true ↦ (f.1, refl)
      | false ↦ stands_last es e
    ]

stands_either : (es : List (ℕ × BookValue)) (e : ℕ × BookValue) (b : ℕ) (book : BookValue) → book_at (es ++ e ∷ []) b ≡ Some book
    → ((other : BookValue) × (book_at es b ≡ Some other)) ⊎ (b ≡ e.0)
stands_either [] e b book is =
    elim (b == e.0) as (λ v. b == e.0 ≡ v → (if v then Some e.1 else None) ≡ Some book → ((other : BookValue) × (book_at [] b ≡ Some other)) ⊎ (b ≡ e.0)) [
      | true ↦ λ same here. inr (grind (arith, nat_tests, same))
      | false ↦ λ other none. absurd_none none
    ] refl is
stands_either (f ∷ es) e b book is =
    elim (b == f.0) as (λ v. (if v then Some f.1 else book_at (es ++ e ∷ []) b) ≡ Some book
    → ((other : BookValue) × ((if v then Some f.1 else book_at es b) ≡ Some other)) ⊎ (b ≡ e.0)) [
      | true ↦ λ here. inl (f.1, refl)
      | false ↦ λ there. stands_either es e b book there
    ] is

-- a nearer one above the bound takes the place
nearer : (es : List (ℕ × BookValue)) (e : ℕ × BookValue) (after : ℕ) → IsLeastAbove es after None → after < e.0 → IsLeastAbove (es ++ e ∷ []) after (Some e.0)
nearer es e after least above = (above, stands_last es e, λ b book is past. from (stands_either es e b book is) past) where
  from : {b : ℕ} → ((other : BookValue) × (book_at es b ≡ Some other)) ⊎ (b ≡ e.0) → after < b → e.0 ≤ b
  from {b} (inl stood) past = let low = least b stood.0 stood.1 in absurd (omega (arith, low, past))
  from {b} (inr is) past = omega (arith, is)

pub nearest : (es : List (ℕ × BookValue)) (e : ℕ × BookValue) (after : ℕ) (next : Option ℕ) → IsLeastAbove es after next → after < e.0
    → ((n : ℕ) → next ≡ Some n → e.0 < n) → IsLeastAbove (es ++ e ∷ []) after (Some e.0)
nearest es e after None least above less = nearer es e after least above
nearest es e after (Some n) least above less = (above, stands_last es e, λ b book is past. from (stands_either es e b book is) past) where
  from : {b : ℕ} → ((other : BookValue) × (book_at es b ≡ Some other)) ⊎ (b ≡ e.0) → after < b → e.0 ≤ b
  from {b} (inl stood) past = let low = least.2 b stood.0 stood.1 past in let fewer = less n refl in omega (arith, low, fewer)
  from {b} (inr is) past = omega (arith, is)

-- one that is not above the bound changes nothing
pub below : (es : List (ℕ × BookValue)) (e : ℕ × BookValue) (after : ℕ) (next : Option ℕ) → IsLeastAbove es after next → e.0 ≤ after
    → IsLeastAbove (es ++ e ∷ []) after next
below es e after None least low = λ b book is. from (stands_either es e b book is) where
  from : {b : ℕ} → ((other : BookValue) × (book_at es b ≡ Some other)) ⊎ (b ≡ e.0) → b ≤ after
  from {b} (inl stood) = least b stood.0 stood.1
  from {b} (inr is) = omega (arith, is, low)
below es e after (Some n) least low =
    (least.0, (least.1.0, stands_before es e n least.1.0 least.1.1), λ b book is past. from (stands_either es e b book is) past) where
      from : {b : ℕ} → ((other : BookValue) × (book_at es b ≡ Some other)) ⊎ (b ≡ e.0) → after < b → n ≤ b
      from {b} (inl stood) past = least.2 b stood.0 stood.1 past
      from {b} (inr is) past = absurd (omega (arith, is, low, past))

-- .. and neither does one that is no nearer
pub no_nearer : (es : List (ℕ × BookValue)) (e : ℕ × BookValue) (after n : ℕ) → IsLeastAbove es after (Some n) → n ≤ e.0
    → IsLeastAbove (es ++ e ∷ []) after (Some n)
no_nearer es e after n least high =
    (least.0, (least.1.0, stands_before es e n least.1.0 least.1.1), λ b book is past. from (stands_either es e b book is) past) where
      from : {b : ℕ} → ((other : BookValue) × (book_at es b ≡ Some other)) ⊎ (b ≡ e.0) → after < b → n ≤ b
      from {b} (inl stood) past = least.2 b stood.0 stood.1 past
      from {b} (inr is) past = omega (arith, is, high)

-- the front of the list with one book more
pub one_more : (ks : List Kept) (i : ℕ) (k : Kept) → i < length ks → k ≡ get_or ks i k
    → take (i + 1) (map listed_book ks) ≡ take i (map listed_book ks) ++ listed_book k ∷ []
one_more ks i k less is =
    let within : i < length (map listed_book ks) = omega (arith, less, length-map ks listed_book) in
    take_more (map listed_book ks) i (listed_book k) within
    ∙ ap (λ (e : ℕ × BookValue). take i (map listed_book ks) ++ e ∷ []) (get_or-map listed_book ks i k (listed_book k) less ∙ ap listed_book (sym is))

pub all_of : (ks : List Kept) (i : ℕ) → length ks ≤ i → take i (map listed_book ks) ≡ map listed_book ks
all_of ks i past = let beyond : length (map listed_book ks) ≤ i = omega (arith, past, length-map ks listed_book) in take_all i (map listed_book ks) beyond

-- the search with one book more
pub least_more : (es : List (ℕ × BookValue)) (e : ℕ × BookValue) (after : ℕ) (next : Option ℕ) → IsLeastAbove es after next
    → IsLeastAbove (es ++ e ∷ []) after (if nat_lt after e.0 && nat_lt e.0 (unwrap_or next (e.0 + 1)) then Some e.0 else next)
least_more es e after next least = from (nat_lt after e.0) (nat_lt e.0 (unwrap_or next (e.0 + 1))) refl refl where
  less_than : (o : Option ℕ) → nat_lt e.0 (unwrap_or o (e.0 + 1)) ≡ true → (n : ℕ) → o ≡ Some n → e.0 < n
  less_than o less n is = let fewer : nat_lt e.0 n ≡ true = sym (ap (λ p. nat_lt e.0 (unwrap_or p (e.0 + 1))) is) ∙ less in grind (arith, nat_tests, fewer)

  kept : (o : Option ℕ) → IsLeastAbove es after o → nat_lt e.0 (unwrap_or o (e.0 + 1)) ≡ false → IsLeastAbove (es ++ e ∷ []) after o
  kept None l more = let low : e.0 + 1 ≤ e.0 = grind (arith, nat_tests, more) in absurd (omega (arith, low))
  kept (Some n) l more = no_nearer es e after n l (grind (arith, nat_tests, more))

  from : (above less : Bool) → nat_lt after e.0 ≡ above → nat_lt e.0 (unwrap_or next (e.0 + 1)) ≡ less
      → IsLeastAbove (es ++ e ∷ []) after (if above && less then Some e.0 else next)
  from false less low is = below es e after next least (grind (arith, nat_tests, low))
  from true true high is = nearest es e after next least (grind (arith, nat_tests, high)) (less_than next is)
  from true false high is = kept next least is
