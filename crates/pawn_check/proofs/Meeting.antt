-- Books that are met one after the other, in order of their numbers from 1 on.
use Rattle.pawn_base.proofs.TestLemmas.{both_told, below}
use Rattle.pawn_book.proofs.SoundLists.{absurd_none, some_is}
use Rattle.pawn_book.specs.BookStep.{BookValue}
use Rattle.pawn_book.specs.HostStep.{Host, book_row_count, rows}
use Rattle.pawn_book.specs.Keeping.{IsNextBook}
use Rattle.pawn_book.specs.Sound.{AreSound, HasUnsoundBook, IsSoundAt}
use Rattle.pawn_check.specs.Checking.{AreCounted, AreOfBook}
use Rattle.pawn_check.specs.declared.counts.BookCounts.{BookCounts}
use Rattle.std.proofs.Common.{◌≡◌, ◌∙◌, ℕ, ◌+◌, ◌<◌, ◌≤◌, zero, suc, List, [], ◌∷◌, length, map, ◌-◌, Some, None, T}
use Rattle.std.proofs.Common.{cond, refl, sym, ap, subst, arith, Ordering, if◌then◌else◌, Bool, true, false, ◌&&◌}
use Rattle.std.proofs.Common.{Option, nat_lt, nat_le, sum_by}
use Rattle.std.proofs.lemmas.Bool.Decides.{nat_tests}
use Rattle.std.proofs.lemmas.List.Sums.{sum_by-cons}
use Rattle.std.specs.Cmp.{ranked}
use Rattle.std.specs.FinMap.{entries, entries_sorted, find, get, get-entries, is_sorted}
use Rattle.std.specs.FinMap.Entries.{below_all}
use Rattle.std.specs.Ordering.{nat_cmp, is_eq}
use Rattle.std.specs.declared.cmp.Ordering.TheVariants.{Less, Equal, Greater}

abbrev pub Books : Type 0
Books = List (ℕ × BookValue)

-- from 1 up to a number
abbrev is_met : ℕ → ℕ → Bool
is_met a b = nat_lt 0 b && nat_le b a

-- a sum over the books that were met
abbrev pub up_to : (BookValue → ℕ) → ℕ → Books → ℕ
up_to f a es = sum_by (λ (e : ℕ × BookValue). if is_met a e.0 then f e.1 else 0) es

up_to-cons : (f : BookValue → ℕ) (a : ℕ) (e : ℕ × BookValue) (es : Books) (v : Bool) → is_met a e.0 ≡ v
    → up_to f a (e ∷ es) ≡ (if v then f e.1 else 0) + up_to f a es
up_to-cons f a e es v is = sum_by-cons (λ (e : ℕ × BookValue). if is_met a e.0 then f e.1 else 0) e es ∙ ap (λ w. (if w then f e.1 else 0) + up_to f a es) is

met : (a b : ℕ) → 1 ≤ b → b ≤ a → is_met a b ≡ true
met a b low high = grind (arith, nat_tests, low, high)

not_met : (a b : ℕ) → a < b → is_met a b ≡ false
not_met a b past = grind (arith, nat_tests, past)

not_zero : (a : ℕ) → is_met a 0 ≡ false
not_zero a = refl

-- ---- keys in order

same_key : (a b : ℕ) → is_eq (nat_cmp a b) ≡ true → a ≡ b
same_key a b h = from (nat_cmp a b) refl h where
  from : (o : Ordering) → nat_cmp a b ≡ o → is_eq o ≡ true → a ≡ b
  from Less e t = cc t
  from Equal e t = ranked a b Equal (sym e)
  from Greater e t = cc t

own_key : (a : ℕ) → is_eq (nat_cmp a a) ≡ true
own_key a = from (nat_cmp a a) refl where
  from : (o : Ordering) → nat_cmp a a ≡ o → is_eq o ≡ true
  from Less e = let less : a < a = ranked a a Less (sym e) in absurd (omega (arith, less))
  from Equal e = refl
  from Greater e = let less : a < a = ranked a a Greater (sym e) in absurd (omega (arith, less))

other_key : (a b : ℕ) → a < b → is_eq (nat_cmp b a) ≡ false
other_key a b less = from (nat_cmp b a) refl where
  from : (o : Ordering) → nat_cmp b a ≡ o → is_eq o ≡ false
  from Less e = refl
  from Equal e = let same : b ≡ a = ranked b a Equal (sym e) in absurd (omega (arith, same, less))
  from Greater e = refl

-- what a key finds after others is after all of them
is_behind : (m n : ℕ) (es : Books) (k : BookValue) → T (below_all nat_cmp m es) → find nat_cmp n es ≡ Some k → m < n
is_behind m n [] k up is = absurd_none is
is_behind m n (e ∷ es) k up is =
    elim (is_eq (nat_cmp n e.0)) as (λ v. is_eq (nat_cmp n e.0) ≡ v → cond v (Some e.1) (find nat_cmp n es) ≡ Some k → m < n) [
      | true ↦ λ same here. let key = same_key n e.0 same in let less = below m e.0 (both_told _ _ up).0 in omega (arith, key, less)
      | false ↦ λ other there. is_behind m n es k (both_told _ _ up).1 there
    ] refl is

behind : (b : ℕ) (e : ℕ × BookValue) (es : Books) (x : BookValue) → T (below_all nat_cmp e.0 es) → find nat_cmp b es ≡ Some x → find nat_cmp b (e ∷ es) ≡ Some x
behind b e es x up is = ap (λ v. cond v (Some e.1) (find nat_cmp b es)) (other_key e.0 b (is_behind e.0 b es x up is)) ∙ is

at_front : (e : ℕ × BookValue) (es : Books) → find nat_cmp e.0 (e ∷ es) ≡ Some e.1
at_front e es = ap (λ v. cond v (Some e.1) (find nat_cmp e.0 es)) (own_key e.0)

-- ---- sums

none_met : (f : BookValue → ℕ) (a m : ℕ) (es : Books) → T (below_all nat_cmp m es) → a ≤ m → up_to f a es ≡ 0
none_met f a m [] up low = refl
none_met f a m (e ∷ es) up low =
    let less = below m e.0 (both_told _ _ up).0 in
    let is = up_to-cons f a e es false (not_met a e.0 (omega (arith, less, low))) in
    let rest = none_met f a m es (both_told _ _ up).1 low in
    omega (arith, is, rest)

pub none_yet : (f : BookValue → ℕ) (es : Books) → up_to f 0 es ≡ 0
none_yet f [] = refl
none_yet f (e ∷ es) =
    let is = up_to-cons f 0 e es false (none e.0) in
    let rest = none_yet f es in
    omega (arith, is, rest) where
      none : (b : ℕ) → is_met 0 b ≡ false
      none zero = refl
      none (suc b) = not_met 0 (suc b) (omega arith)

-- the next book joins those that were met
next_met : (f : BookValue → ℕ) (a n : ℕ) (k : BookValue) (es : Books) → T (is_sorted nat_cmp es) → find nat_cmp n es ≡ Some k → a < n
    → ((b : ℕ) (x : BookValue) → find nat_cmp b es ≡ Some x → a < b → n ≤ b) → up_to f n es ≡ up_to f a es + f k
next_met f a n k [] up is low least = absurd_none is
next_met f a n k (e ∷ es) up is low least = go (is_eq (nat_cmp n e.0)) refl is (next_met f a n k es (both_told _ _ up).1) where
  go : (v : Bool) → is_eq (nat_cmp n e.0) ≡ v → cond v (Some e.1) (find nat_cmp n es) ≡ Some k → (find nat_cmp n es ≡ Some k → a < n → ((b : ℕ) (x : BookValue)
      → find nat_cmp b es ≡ Some x → a < b → n ≤ b) → up_to f n es ≡ up_to f a es + f k) → up_to f n (e ∷ es) ≡ up_to f a (e ∷ es) + f k
  go true same here more =
      let key : n ≡ e.0 = same_key n e.0 same in
      let value : e.1 ≡ k = some_is e.1 k here in
      let new = up_to-cons f n e es true (met n e.0 (omega (arith, key, low)) (omega (arith, key))) in
      let old = up_to-cons f a e es false (not_met a e.0 (omega (arith, key, low))) in
      let rest_new = none_met f n e.0 es (both_told _ _ up).0 (omega (arith, key)) in
      let rest_old = none_met f a e.0 es (both_told _ _ up).0 (omega (arith, key, low)) in
      let worth : f e.1 ≡ f k = ap f value in
      omega (arith, new, old, rest_new, rest_old, worth)
  go false other there more =
      let before : e.0 < n = is_behind e.0 n es k (both_told _ _ up).0 there in
      let within : e.0 ≤ a = not_far (nat_le e.0 a) refl before in
      let same : is_met n e.0 ≡ is_met a e.0 = grind (arith, nat_tests, before, within) in
      let new = up_to-cons f n e es (is_met a e.0) same in
      let old = up_to-cons f a e es (is_met a e.0) refl in
      let rest = more there low (λ b x at far. least b x (behind b e es x (both_told _ _ up).0 at) far) in
      omega (arith, new, old, rest) where
        not_far : (v : Bool) → nat_le e.0 a ≡ v → e.0 < n → e.0 ≤ a
        not_far true within before = grind (arith, nat_tests, within)
        not_far false far before =
            let past' : a < e.0 = grind (arith, nat_tests, far) in
            let high = least e.0 e.1 (at_front e es) past' in
            absurd (omega (arith, high, before))

-- all are met, where none is above the last and none is numbered 0
all_met : (f : BookValue → ℕ) (a : ℕ) (es : Books) → T (is_sorted nat_cmp es) → ((b : ℕ) (x : BookValue) → find nat_cmp b es ≡ Some x → b ≤ a)
    → find nat_cmp 0 es ≡ None → up_to f a es ≡ sum_by (λ (e : ℕ × BookValue). f e.1) es
all_met f a [] up high none = refl
all_met f a (e ∷ es) up high none =
    let some = at_front e es in
    let low : 1 ≤ e.0 = lowest e.0 some none in
    let is = up_to-cons f a e es true (met a e.0 low (high e.0 e.1 some)) in
    let rest = all_met f a es (both_told _ _ up).1 (λ b x at. high b x (behind b e es x (both_told _ _ up).0 at))
    (ap (λ v. cond v (Some e.1) (find nat_cmp 0 es)) (sym (away e.0 low)) ∙ none) in
    is ∙ ap (λ n. f e.1 + n) rest ∙ sym (sum_by-cons (λ (e : ℕ × BookValue). f e.1) e es) where
      lowest : (b : ℕ) → find nat_cmp b (e ∷ es) ≡ Some e.1 → find nat_cmp 0 (e ∷ es) ≡ None → 1 ≤ b
      lowest zero some none = absurd_none (sym none ∙ some)
      lowest (suc b) some none = omega arith

      away : (b : ℕ) → 1 ≤ b → is_eq (nat_cmp 0 b) ≡ false
      away b low = from (nat_cmp 0 b) refl where
        from : (o : Ordering) → nat_cmp 0 b ≡ o → is_eq o ≡ false
        from Less e = refl
        from Equal e = let same : 0 ≡ b = ranked 0 b Equal (sym e) in absurd (omega (arith, same, low))
        from Greater e = refl

met_at_most : (f : BookValue → ℕ) (a : ℕ) (es : Books) → up_to f a es ≤ sum_by (λ (e : ℕ × BookValue). f e.1) es
met_at_most f a [] = omega arith
met_at_most f a (e ∷ es) =
    let is = up_to-cons f a e es (is_met a e.0) refl in
    let all = sum_by-cons (λ (e : ℕ × BookValue). f e.1) e es in
    let rest = met_at_most f a es in
    let few : (if is_met a e.0 then f e.1 else 0) ≤ f e.1 = at_most (is_met a e.0) (f e.1) in
    omega (arith, is, all, rest, few) where
      at_most : (v : Bool) (n : ℕ) → (if v then n else 0) ≤ n
      at_most true n = omega arith
      at_most false n = omega arith

-- one numbered 0 is not met
left_out : (f : BookValue → ℕ) (a : ℕ) (k : BookValue) (es : Books) → find nat_cmp 0 es ≡ Some k → up_to f a es + f k ≤ sum_by (λ (e : ℕ × BookValue). f e.1) es
left_out f a k [] is = absurd_none is
left_out f a k (e ∷ es) is = go (is_eq (nat_cmp 0 e.0)) refl is (left_out f a k es) where
  at_most : (v : Bool) (n : ℕ) → (if v then n else 0) ≤ n
  at_most true n = omega arith
  at_most false n = omega arith

  go : (v : Bool) → is_eq (nat_cmp 0 e.0) ≡ v → cond v (Some e.1) (find nat_cmp 0 es) ≡ Some k → (find nat_cmp 0 es ≡ Some k
      → up_to f a es + f k ≤ sum_by (λ (e : ℕ × BookValue). f e.1) es) → up_to f a (e ∷ es) + f k ≤ sum_by (λ (e : ℕ × BookValue). f e.1) (e ∷ es)
  go true same here more =
      let key : 0 ≡ e.0 = same_key 0 e.0 same in
      let is = up_to-cons f a e es false (ap (is_met a) (sym key)) in
      let all = sum_by-cons (λ (e : ℕ × BookValue). f e.1) e es in
      let rest = met_at_most f a es in
      let worth : f e.1 ≡ f k = ap f (some_is e.1 k here) in
      omega (arith, is, all, rest, worth)
  go false other there more =
      let is = up_to-cons f a e es (is_met a e.0) refl in
      let all = sum_by-cons (λ (e : ℕ × BookValue). f e.1) e es in
      let rest = more there in
      let few : (if is_met a e.0 then f e.1 else 0) ≤ f e.1 = at_most (is_met a e.0) (f e.1) in
      omega (arith, is, all, rest, few)

-- ---- a host whose books are met

-- the books up to a number are sound, and these are how many they are, their pledges, and the rows that the others have
pub record AreMet (h : Host) (a books pledges left : ℕ) : Type 0 where
  pub sound : (b : ℕ) (k : BookValue) → get h.books b ≡ Some k → 1 ≤ b → b ≤ a → IsSoundAt b k
  pub books_are : books ≡ up_to (λ _. 1) a (entries h.books)
  pub pledges_are : pledges ≡ up_to (λ k. length k.pledges) a (entries h.books)
  pub left_are : left + up_to book_row_count a (entries h.books) ≡ rows h

found : (h : Host) (b : ℕ) (k : BookValue) → get h.books b ≡ Some k → find nat_cmp b (entries h.books) ≡ Some k
found h b k is = sym (get-entries h.books b) ∙ is

there : (h : Host) (b : ℕ) (k : BookValue) → find nat_cmp b (entries h.books) ≡ Some k → get h.books b ≡ Some k
there h b k is = get-entries h.books b ∙ is

rows_are : (h : Host) → rows h ≡ sum_by (λ (e : ℕ × BookValue). book_row_count e.1) (entries h.books)
rows_are h = of_values (entries h.books) where
  of_values : (es : Books) → sum_by book_row_count (map (λ (e : ℕ × BookValue). e.1) es) ≡ sum_by (λ (e : ℕ × BookValue). book_row_count e.1) es
  of_values [] = refl
  of_values (e ∷ es) = sum_by-cons book_row_count e.1 (map (λ (e : ℕ × BookValue). e.1) es) ∙ ap (λ n. book_row_count e.1 + n) (of_values es)
      ∙ sym (sum_by-cons (λ (e : ℕ × BookValue). book_row_count e.1) e es)

pub none_are_met : (h : Host) (left : ℕ) → left ≡ rows h → AreMet h 0 0 0 left
none_are_met h left is = record {
  sound = λ b k at low high. absurd (omega (arith, low, high));
  books_are = sym (none_yet (λ _. 1) (entries h.books));
  pledges_are = sym (none_yet (λ k. length k.pledges) (entries h.books));
  left_are = let none = none_yet book_row_count (entries h.books) in omega (arith, none, is);
}

-- the next book and what it has
pub record IsNext (h : Host) (a n : ℕ) (counts : BookCounts) (k : BookValue) : Type 0 where
  pub is : get h.books n ≡ Some k
  pub low : a < n
  pub least : (b : ℕ) (x : BookValue) → get h.books b ≡ Some x → a < b → n ≤ b
  pub sound : IsSoundAt n k
  pub has : AreOfBook k counts

pub next_is : (h : Host) (a n : ℕ) (counts : BookCounts) → IsNextBook h a (Some n)
    → ((book : BookValue) → get h.books n ≡ Some book → IsSoundAt n book × AreOfBook book counts) → (k : BookValue) × IsNext h a n counts k
next_is h a n counts next checked =
    let k = next.1.0 in
    let both = checked k next.1.1 in
    (k, record { is = next.1.1; low = next.0; least = next.2; sound = both.0; has = both.1 })

next_sum : (h : Host) (a n : ℕ) (counts : BookCounts) (k : BookValue) (f : BookValue → ℕ) → IsNext h a n counts k
    → up_to f n (entries h.books) ≡ up_to f a (entries h.books) + f k
next_sum h a n counts k f next =
    next_met f a n k (entries h.books) (entries_sorted h.books) (found h n k next.is) next.low (λ b x at far. next.least b x (there h b x at) far)

-- a book never has more rows than are left
pub fits : (h : Host) (a n books pledges left : ℕ) (counts : BookCounts) (k : BookValue) → AreMet h a books pledges left → IsNext h a n counts k
    → counts.rows ≤ left
fits h a n books pledges left counts k before next =
    let sum = next_sum h a n counts k book_row_count next in
    let most = met_at_most book_row_count n (entries h.books) in
    let all = rows_are h in
    omega (arith, sum, most, all, before.left_are, next.has.rows)

pub one_more : (h : Host) (a n books pledges left : ℕ) (counts : BookCounts) (k : BookValue) → AreMet h a books pledges left → IsNext h a n counts k
    → AreMet h n (books + 1) (pledges + counts.pledges) (left - counts.rows)
one_more h a n books pledges left counts k before next = record {
  sound = λ b x at low high. sound_to b x at low high;
  books_are = let sum = next_sum h a n counts k (λ _. 1) next in omega (arith, sum, before.books_are);
  pledges_are = let sum = next_sum h a n counts k (λ k. length k.pledges) next in omega (arith, sum, before.pledges_are, next.has.pledges);
  left_are =
      let sum = next_sum h a n counts k book_row_count next in
      let few = fits h a n books pledges left counts k before next in
      omega (arith, sum, few, before.left_are, next.has.rows);
} where
  sound_to : (b : ℕ) (x : BookValue) → get h.books b ≡ Some x → 1 ≤ b → b ≤ n → IsSoundAt b x
  sound_to b x at low high = go (nat_le b a) refl where
    go : (v : Bool) → nat_le b a ≡ v → IsSoundAt b x
    go true within = before.sound b x at low (grind (arith, nat_tests, within))
    go false far =
        let past' : a < b = grind (arith, nat_tests, far) in
        let same : n ≡ b = (let least = next.least b x at past' in omega (arith, least, high)) in
        let value : k ≡ x = some_is k x (sym next.is ∙ ap (get h.books) same ∙ at) in
        subst (λ (y : BookValue). IsSoundAt b y) value (subst (λ (m : ℕ). IsSoundAt m k) same next.sound)

sum_ones : (es : Books) → sum_by (λ (e : ℕ × BookValue). 1) es ≡ length es
sum_ones [] = refl
sum_ones (e ∷ es) = sum_by-cons (λ (e : ℕ × BookValue). 1) e es ∙ (let rest = sum_ones es in omega (arith, rest))

-- where rows are left, a book is numbered 0
pub one_is_left : (h : Host) (a books pledges left : ℕ) → AreMet h a books pledges left → IsNextBook h a None → 0 < left → HasUnsoundBook h
one_is_left h a books pledges left before last some = go (get h.books 0) refl where
  go : (o : Option BookValue) → get h.books 0 ≡ o → HasUnsoundBook h
  go (Some k) is = (0, (k, is, λ sound. absurd (let low = sound.0.0 in omega (arith, low))))
  go None none =
      let all = all_met book_row_count a (entries h.books) (entries_sorted h.books) (λ b x at. last b x (there h b x at))
      (sym (get-entries h.books 0) ∙ none) in
      let sum = rows_are h in
      absurd (omega (arith, all, sum, before.left_are, some))

-- where none are left, all were met
pub all_are_met : (h : Host) (a books pledges left : ℕ) → AreMet h a books pledges left → IsNextBook h a None → left ≡ 0
    → AreSound h × AreCounted h (record { books = books; pledges = pledges; rows = rows h })
all_are_met h a books pledges left before last none_left = go (get h.books 0) refl where
  go : (o : Option BookValue) → get h.books 0 ≡ o → AreSound h × AreCounted h (record { books = books; pledges = pledges; rows = rows h })
  go (Some k) is =
      let out = left_out book_row_count a k (entries h.books) (found h 0 k is) in
      let sum = rows_are h in
      absurd (omega (arith, out, sum, before.left_are, none_left))
  go None none =
      let empty = sym (get-entries h.books 0) ∙ none in
      let high = λ (b : ℕ) (x : BookValue) (at : find nat_cmp b (entries h.books) ≡ Some x). last b x (there h b x at) in (
        λ b k is. before.sound b k is (low b k is none) (last b k is),
        record {
          books = before.books_are ∙ all_met (λ _. 1) a (entries h.books) (entries_sorted h.books) high empty ∙ sum_ones (entries h.books);
          pledges = before.pledges_are ∙ all_met (λ k. length k.pledges) a (entries h.books) (entries_sorted h.books) high empty;
          rows = refl;
        },
      ) where
        low : (b : ℕ) (k : BookValue) → get h.books b ≡ Some k → get h.books 0 ≡ None → 1 ≤ b
        low zero k is none = absurd_none (sym none ∙ is)
        low (suc b) k is none = omega arith
