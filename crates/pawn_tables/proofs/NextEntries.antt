-- The entries of a pledge, whose numbers rise.
use Rattle.pawn_tables.proofs.Basics.{cond-false, cond-true, cond_both, nat_tests}
use Rattle.pawn_tables.proofs.PageLemmas.{is_page}
use Rattle.pawn_tables.specs.Common.{Row, Entry, AreNumbered, Each}
use Rattle.pawn_tables.specs.Entries.{IsEntriesPage, RiseFrom, behind, entries_from, with_seq}
use Rattle.pawn_tables.specs.Pages.{most_page_rows}
use Rattle.pawn_tables.specs.Places.{at_place}
use Rattle.pawn_tables.specs.Rows.{at_most_one}
use Rattle.std.proofs.Common.{◌≡◌, ◌==◌, ℕ, zero, suc, ◌+◌, ◌≤◌, ◌<◌, List, [], ◌∷◌, map, filter, find, slice_get, take}
use Rattle.std.proofs.Common.{Bool, true, false, cond, Some, None, refl, sym, ap, subst, ◌∙◌, arith, IfSome, nat_le}

-- ---- entries that are numbered 1, 2, ..

-- their numbers rise
pub numbered_rise : (n m : ℕ) (es : List Entry) → m ≤ n → AreNumbered n es → RiseFrom m es
numbered_rise n m [] le numbered = tt
numbered_rise n m (e ∷ es) le numbered = let at = numbered.0 in (omega (arith, le, at), numbered_rise (n + 1) (e.seq + 1) es (omega (arith, at)) numbered.1)

-- none has a number below the first
none_under : (k s : ℕ) (es : List Entry) → s < k → AreNumbered k es → with_seq es s ≡ None
none_under k s [] lt numbered = refl
none_under k s (e ∷ es) lt numbered = let at = numbered.0 in
    let other : (e.seq == s) ≡ false = grind (arith, nat_tests, lt, at) in
    cond-false _ _ _ other ∙ none_under (k + 1) s es (omega (arith, lt)) numbered.1

-- the entry with a number is at that place
numbered_at : (k s n : ℕ) (es : List Entry) → s ≡ k + n → AreNumbered k es → with_seq es s ≡ slice_get es n
numbered_at k s n [] is numbered = refl
numbered_at k s zero (e ∷ es) is numbered = let at = numbered.0 in
    let here : (e.seq == s) ≡ true = grind (arith, nat_tests, is, at) in
    cond-true _ _ _ here
numbered_at k s (suc n) (e ∷ es) is numbered = let at = numbered.0 in
    let other : (e.seq == s) ≡ false = grind (arith, nat_tests, is, at) in
    cond-false _ _ _ other ∙ numbered_at (k + 1) s n es (omega (arith, is)) numbered.1

pub at_seq : (es : List Entry) (s : ℕ) → AreNumbered 1 es → with_seq es s ≡ at_place es s
at_seq es zero numbered = none_under 1 0 es (omega arith) numbered
at_seq es (suc n) numbered = numbered_at 1 (suc n) n es (omega arith) numbered

-- ---- the entry of a number

none_below : (n k : ℕ) (es : List Entry) → n < k → RiseFrom k es → filter (λ (e : Entry). e.seq == n) es ≡ []
none_below n k [] lt rise = refl
none_below n k (e ∷ es) lt rise = let at = rise.0 in
    let other : (e.seq == n) ≡ false = grind (arith, nat_tests, lt, at) in
    cond-false _ _ _ other ∙ none_below n (e.seq + 1) es (omega (arith, lt, at)) rise.1

-- one has it at most
pub one_with : (g : Entry → Row) (n k : ℕ) (es : List Entry) → RiseFrom k es → map g (filter (λ (e : Entry). e.seq == n) es) ≡ at_most_one g (with_seq es n)
one_with g n k [] rise = refl
one_with g n k (e ∷ es) rise = go (one_with g n (e.seq + 1) es rise.1) (e.seq == n) refl where
  go : map g (filter (λ (x : Entry). x.seq == n) es) ≡ at_most_one g (with_seq es n) → (c : Bool) → (e.seq == n) ≡ c
      → map g (cond c (e ∷ filter (λ (x : Entry). x.seq == n) es) (filter (λ (x : Entry). x.seq == n) es)) ≡ at_most_one g (cond c (Some e) (with_seq es n))
  go rest true is = let low : n < e.seq + 1 = grind (arith, nat_tests, is) in ap (λ l. g e ∷ map g l) (none_below n (e.seq + 1) es low rise.1)
  go rest false is = rest

-- ---- the entries from a number on

-- from one on that is not above theirs they are all
all_from : (n k : ℕ) (es : List Entry) → n ≤ k → RiseFrom k es → entries_from n es ≡ es
all_from n k [] le rise = refl
all_from n k (e ∷ es) le rise = let at = rise.0 in
    let over : nat_le n e.seq ≡ true = grind (arith, nat_tests, le, at) in
    cond-true _ _ _ over ∙ ap (λ l. e ∷ l) (all_from n (e.seq + 1) es (omega (arith, le, at)) rise.1)

pub from_zero : (es : List Entry) → entries_from 0 es ≡ es
from_zero [] = refl
from_zero (e ∷ es) = let over : nat_le 0 e.seq ≡ true = grind (arith, nat_tests) in
    cond-true _ _ _ over ∙ ap (λ l. e ∷ l) (from_zero es)

first_from : (n k : ℕ) (es : List Entry) → RiseFrom k es → (e : Entry) (more : List Entry) → entries_from n es ≡ e ∷ more → k ≤ e.seq
first_from n k [] rise e more is = absurd (let x = is in cc)
first_from n k (x ∷ xs) rise e more is = go (first_from n (x.seq + 1) xs rise.1 e more) (nat_le n x.seq) is where
  go : (entries_from n xs ≡ e ∷ more → x.seq + 1 ≤ e.seq) → (c : Bool) → cond c (x ∷ entries_from n xs) (entries_from n xs) ≡ e ∷ more → k ≤ e.seq
  go rest true is = let same : x ≡ e = (let y = is in cc) in subst (λ (y : Entry). k ≤ y.seq) same rise.0
  go rest false is = let low = rest is in let at = rise.0 in omega (arith, low, at)

-- those after the first have greater numbers
pub rest_from : (n k : ℕ) (es : List Entry) → RiseFrom k es → (e : Entry) (more : List Entry) → entries_from n es ≡ e ∷ more → entries_from (e.seq + 1) es ≡
    more
rest_from n k [] rise e more is = absurd (let x = is in cc)
rest_from n k (x ∷ xs) rise e more is = go (rest_from n (x.seq + 1) xs rise.1 e more) (nat_le n x.seq) refl is where
  left_out : x.seq ≤ e.seq → entries_from (e.seq + 1) (x ∷ xs) ≡ entries_from (e.seq + 1) xs
  left_out le = let under' : nat_le (e.seq + 1) x.seq ≡ false = grind (arith, nat_tests, le) in cond-false _ _ _ under'

  go : (entries_from n xs ≡ e ∷ more → entries_from (e.seq + 1) xs ≡ more) → (c : Bool) → nat_le n x.seq ≡ c
      → cond c (x ∷ entries_from n xs) (entries_from n xs) ≡ e ∷ more → entries_from (e.seq + 1) (x ∷ xs) ≡ more
  go rest false over is = let low = first_from n (x.seq + 1) xs rise.1 e more is in left_out (omega (arith, low)) ∙ rest is
  go rest true over is = let same : x ≡ e = (let y = is in cc) in
      let left : entries_from n xs ≡ more = (let y = is in cc) in let seq : x.seq ≡ e.seq = ap (λ (y : Entry). y.seq) same in
      let low : n ≤ x.seq + 1 = grind (arith, nat_tests, over) in
      left_out (omega (arith, seq)) ∙ all_from (e.seq + 1) (x.seq + 1) xs (omega (arith, seq)) rise.1 ∙ sym (all_from n (x.seq + 1) xs low rise.1) ∙ left

pub is_entries_page : (n k : ℕ) (es : List Entry) → RiseFrom k es → IsEntriesPage n es (take most_page_rows (entries_from n es))
is_entries_page n k es rise = is_page (λ m. entries_from m es) behind (λ m e more is. rest_from m k es rise e more is) n

-- ---- what holds of each entry

pub found_each : (P : Entry → Type 0) (test : Entry → Bool) (es : List Entry) → Each P es → IfSome (find test es) P
found_each P test [] all = tt
found_each P test (e ∷ es) all = cond_both (test e) _ _ (λ o. IfSome o P) (λ _. all.0) (λ _. found_each P test es all.1)
