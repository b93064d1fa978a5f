-- Reads of books in a list.
use Rattle.pawn_list_keeper.specs.Common.{BookValue, NewBook, PledgeValue, Rates, made_book, nat_cmp, pledge_from}
use Rattle.pawn_list_keeper.specs.Listed.{book_at, listed_book, IsPlace}
use Rattle.pawn_list_keeper.specs.declared.kept.Kept.{Kept}
use Rattle.std.proofs.Common.{◌≡◌, ◌≢◌, ℕ, ◌+◌, ◌<◌, ◌≤◌, zero, suc, List, [], ◌∷◌, ◌++◌, length, map, drop, get_or}
use Rattle.std.proofs.Common.{set, Some, None, refl, ◌∙◌, ap, sym, subst, arith, if◌then◌else◌, Bool, true, false, ◌==◌}
use Rattle.std.proofs.Math.Seq.{map-set_same}
use Rattle.std.proofs.lemmas.Bool.Decides.{nat_tests}
use Rattle.std.proofs.lemmas.Cmp.{nat_cmp_total}
use Rattle.std.proofs.lemmas.List.{get_or-map, length-map}
use Rattle.std.specs.Cmp.{unsigned_tied}
use Rattle.std.specs.FinMap.{find, from_entries, from_entries_push, get, get-from_entries, insert}
use Rattle.std.specs.FinMap.{nat_cmp-IsAntisymmetric}

find_book : (es : List (ℕ × BookValue)) (b : ℕ) → find nat_cmp b es ≡ book_at es b
find_book [] b = refl
find_book (e ∷ es) b =
    ap (λ v. if v then Some e.1 else find nat_cmp b es) (unsigned_tied b e.0) ∙ ap (λ o. if b == e.0 then Some e.1 else o) (find_book es b)

-- the host's book is the list's
pub get-book_at : (es : List (ℕ × BookValue)) (b : ℕ) → get (from_entries {R = nat_cmp} es) b ≡ book_at es b
get-book_at es b = get-from_entries nat_cmp_total es b ∙ find_book es b

-- a book at the end, under a new number, is one more book
pub pushed : (es : List (ℕ × BookValue)) (b : ℕ) (book : BookValue) → book_at es b ≡ None
    → from_entries {R = nat_cmp} (es ++ (b, book) ∷ []) ≡ insert (from_entries es) b book
pushed es b book none = from_entries_push nat_cmp_total nat_cmp-IsAntisymmetric es b book (find_book es b ∙ none)

-- the first book of a number is the one at its place
pub at_place : (es : List (ℕ × BookValue)) (b i : ℕ) (d : ℕ × BookValue) → IsPlace es b i → book_at es b ≡ Some (get_or es i d).1
at_place [] b i d is = absurd is
at_place (e ∷ es) b zero d is = let yes : (b == e.0) ≡ true = grind (arith, nat_tests, is) in ap (λ v. if v then Some e.1 else book_at es b) yes
at_place (e ∷ es) b (suc i) d is =
    let other : (b == e.0) ≡ false = grind (arith, nat_tests, is.0) in ap (λ v. if v then Some e.1 else book_at es b) other ∙ at_place es b i d is.1

pub number_at : (es : List (ℕ × BookValue)) (b i : ℕ) (d : ℕ × BookValue) → IsPlace es b i → (get_or es i d).0 ≡ b
number_at [] b i d is = absurd is
number_at (e ∷ es) b zero d is = sym is
number_at (e ∷ es) b (suc i) d is = number_at es b i d is.1

-- a book put at its place
pub book_at-set : (es : List (ℕ × BookValue)) (b i : ℕ) (book : BookValue) (q : ℕ) → IsPlace es b i
    → book_at (set es i (b, book)) q ≡ (if q == b then Some book else book_at es q)
book_at-set [] b i book q is = absurd is
book_at-set (e ∷ es) b zero book q is =
    elim (q == b) as (λ v. (q == b) ≡ v → (if v then Some book else book_at es q) ≡ (if v then Some book else book_at (e ∷ es) q)) [
      | true ↦ λ same. refl
      | false ↦ λ apart. let other : (q == e.0) ≡ false = grind (arith, nat_tests, apart, is) in sym (ap (λ v. if v then Some e.1 else book_at es q) other)
    ] refl
book_at-set (e ∷ es) b (suc i) book q is =
    ap (λ o. if q == e.0 then Some e.1 else o) (book_at-set es b i book q is.1) ∙ swapped (q == e.0) refl where
      swapped : (v : Bool) → (q == e.0) ≡ v
          → (if v then Some e.1 else (if q == b then Some book else book_at es q)) ≡ (if q == b then Some book else (if v then Some e.1 else book_at es q))
      swapped false other = refl
      swapped true same = let no : (q == b) ≡ false = grind (arith, nat_tests, same, is.0) in sym (ap (λ v. if v then Some book else Some e.1) no)

-- the search for a place
pub missed : (es : List (ℕ × BookValue)) (b i : ℕ) (d : ℕ × BookValue) → i < length es → (b ≢ (get_or es i d).0)
    → book_at (drop i es) b ≡ book_at (drop (i + 1) es) b
missed [] b i d less other = absurd (omega arith)
missed (e ∷ es) b zero d less other = let no : (b == e.0) ≡ false = grind (arith, nat_tests, other) in ap (λ v. if v then Some e.1 else book_at es b) no
missed (e ∷ es) b (suc i) d less other = let same : suc i + 1 ≡ suc (i + 1) = omega arith in let fewer : i < length es = omega arith in
    rw same (missed es b i d fewer other)

pub place_on : (es : List (ℕ × BookValue)) (b i j : ℕ) (d : ℕ × BookValue) → i < length es → (b ≢ (get_or es i d).0) → IsPlace (drop (i + 1) es) b j
    → IsPlace (drop i es) b (suc j)
place_on [] b i j d less other is = absurd (omega arith)
place_on (e ∷ es) b zero j d less other is = (other, is)
place_on (e ∷ es) b (suc i) j d less other is =
    let same : suc i + 1 ≡ suc (i + 1) = omega arith in let fewer : i < length es = omega arith in
    place_on es b i j d fewer other (subst (λ (n : ℕ). IsPlace (drop n (e ∷ es)) b j) same is)

pub place_here : (es : List (ℕ × BookValue)) (b i : ℕ) (d : ℕ × BookValue) → i < length es → b ≡ (get_or es i d).0 → IsPlace (drop i es) b 0
place_here [] b i d less is = absurd (omega arith)
place_here (e ∷ es) b zero d less is = is
place_here (e ∷ es) b (suc i) d less is = let fewer : i < length es = omega arith in place_here es b i d fewer is

pub book_past : (es : List (ℕ × BookValue)) (b i : ℕ) → length es ≤ i → book_at (drop i es) b ≡ None
book_past [] b zero le = refl
book_past [] b (suc i) le = refl
book_past (e ∷ es) b zero le = absurd (omega arith)
book_past (e ∷ es) b (suc i) le = let less : length es ≤ i = omega arith in book_past es b i less

pub pledge_from_place : (k : ℕ) (ps : List PledgeValue) (i n : ℕ) (d : PledgeValue) → i < length ps → n ≡ k + i → pledge_from k ps n ≡ Some (get_or ps i d)
pledge_from_place k [] i n d lt e = absurd (omega arith)
pledge_from_place k (p ∷ ps) zero n d lt e = let same : n ≡ k = omega arith in rw same (grind (arith, nat_tests))
pledge_from_place k (p ∷ ps) (suc i) n d lt e = let less : i < length ps = omega arith in let next : n ≡ (k + 1) + i = omega arith in let apart : n ≢ k =
    λ s. absurd (omega (arith, s, e)) in grind (arith, nat_tests, apart, pledge_from_place (k + 1) ps i n d less next)

-- the place that was searched for
pub found_place : (ks : List Kept) (b i : ℕ) (k : Kept) → i < length ks → k ≡ get_or ks i k → k.number ≡ b
    → ((j : ℕ) → IsPlace (drop i (map listed_book ks)) b j → IsPlace (map listed_book ks) b (i + j)) → IsPlace (map listed_book ks) b i
found_place ks b i k less is named on =
    let within : i < length (map listed_book ks) = omega (arith, less, length-map ks listed_book) in
    let number : b ≡ (get_or (map listed_book ks) i (listed_book k)).0 =
    sym named ∙ ap (λ (q : Kept). q.number) is ∙ sym (ap (λ (e : ℕ × BookValue). e.0) (get_or-map listed_book ks i k (listed_book k) less)) in
    let zero_on : i + 0 ≡ i = omega arith in
    subst (λ (n : ℕ). IsPlace (map listed_book ks) b n) zero_on (on 0 (place_here (map listed_book ks) b i (listed_book k) within number))

-- the search goes on
pub next_place : (ks : List Kept) (b i : ℕ) (k : Kept) → i < length ks → k ≡ get_or ks i k → (k.number ≢ b)
    → ((j : ℕ) → IsPlace (drop i (map listed_book ks)) b j → IsPlace (map listed_book ks) b (i + j)) → (j : ℕ) → IsPlace (drop (i + 1) (map listed_book ks)) b j
    → IsPlace (map listed_book ks) b (i + 1 + j)
next_place ks b i k less is other on j at =
    let within : i < length (map listed_book ks) = omega (arith, less, length-map ks listed_book) in
    let apart : b ≢ (get_or (map listed_book ks) i (listed_book k)).0 =
    λ same. other (ap (λ (q : Kept). q.number) is ∙ sym (ap (λ (e : ℕ × BookValue). e.0) (get_or-map listed_book ks i k (listed_book k) less)) ∙ sym same) in
    let moved : i + suc j ≡ i + 1 + j = omega arith in
    subst (λ (n : ℕ). IsPlace (map listed_book ks) b n) moved (on (suc j) (place_on (map listed_book ks) b i j (listed_book k) within apart at))

pub next_book : (ks : List Kept) (b i : ℕ) (k : Kept) → i < length ks → k ≡ get_or ks i k → (k.number ≢ b)
    → book_at (drop i (map listed_book ks)) b ≡ book_at (map listed_book ks) b → book_at (drop (i + 1) (map listed_book ks)) b ≡ book_at (map listed_book ks) b
next_book ks b i k less is other rest =
    let within : i < length (map listed_book ks) = omega (arith, less, length-map ks listed_book) in
    let apart : b ≢ (get_or (map listed_book ks) i (listed_book k)).0 =
    λ same. other (ap (λ (q : Kept). q.number) is ∙ sym (ap (λ (e : ℕ × BookValue). e.0) (get_or-map listed_book ks i k (listed_book k) less)) ∙ sym same) in
    sym (missed (map listed_book ks) b i (listed_book k) within apart) ∙ rest

pub no_book : (ks : List Kept) (b i : ℕ) → length ks ≤ i → book_at (drop i (map listed_book ks)) b ≡ book_at (map listed_book ks) b
    → book_at (map listed_book ks) b ≡ None
no_book ks b i past rest =
    let beyond : length (map listed_book ks) ≤ i = omega (arith, past, length-map ks listed_book) in
    sym rest ∙ book_past (map listed_book ks) b i beyond

-- the book at a place
pub kept_is : (ks : List Kept) (b i : ℕ) (k : Kept) → i < length ks → k ≡ get_or ks i k → IsPlace (map listed_book ks) b i
    → book_at (map listed_book ks) b ≡ Some (listed_book k).1
kept_is ks b i k less is place =
    at_place (map listed_book ks) b i (listed_book k) place
    ∙ ap (λ (e : ℕ × BookValue). Some e.1) (get_or-map listed_book ks i k (listed_book k) less ∙ ap listed_book (sym is))

pub kept_number : (ks : List Kept) (b i : ℕ) (k : Kept) → i < length ks → k ≡ get_or ks i k → IsPlace (map listed_book ks) b i → k.number ≡ b
kept_number ks b i k less is place =
    ap (λ (q : Kept). q.number) is ∙ sym (ap (λ (e : ℕ × BookValue). e.0) (get_or-map listed_book ks i k (listed_book k) less))
    ∙ number_at (map listed_book ks) b i (listed_book k) place

-- a book of the list, changed to one that reads as it
pub kept_same : (ks : List Kept) (i : ℕ) (k next : Kept) → k ≡ get_or ks i k → listed_book next ≡ listed_book k
    → map listed_book (set ks i next) ≡ map listed_book ks
kept_same ks i k next is same = map-set_same listed_book ks i next k (same ∙ ap listed_book is)

-- a book as it is made
pub entry_made : (b : ℕ) (new made : NewBook) (terms : List Rates) (pledges : List PledgeValue) → made ≡ new → terms ≡ [] → pledges ≡ [] → ◌≡◌ {A = ℕ ×
    BookValue} (b, record { key = made.key; name = made.name; capacity = made.capacity; terms = terms; pledges = pledges; imported = None }) (b, made_book new)
entry_made b new made terms pledges same no_terms no_pledges =
    let f : NewBook → List Rates → List PledgeValue → ℕ × BookValue =
    λ m t p. (b, record { key = m.key; name = m.name; capacity = m.capacity; terms = t; pledges = p; imported = None }) in
    ap (λ m. f m terms pledges) same ∙ ap (λ t. f new t pledges) no_terms ∙ ap (λ p. f new [] p) no_pledges
