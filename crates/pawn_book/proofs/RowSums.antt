-- a sum over a map's values, after an insertion
use Rattle.pawn_base.proofs.TestLemmas.{below, both_told}
use Rattle.pawn_book.specs.BookStep.{BookValue}
use Rattle.pawn_book.specs.HostStep.{Host, book_row_count, rows, with_book}
use Rattle.std.proofs.Common.{◌≡◌, ℕ, ◌+◌, ◌<◌, List, [], ◌∷◌, map, Some, None, refl, ◌∙◌, ap, sym, arith, T, Ordering}
use Rattle.std.proofs.Common.{if◌then◌else◌, Option, false, sum_by}
use Rattle.std.proofs.lemmas.Cmp.{nat_cmp_total}
use Rattle.std.proofs.lemmas.List.Sums.{sum_by-cons}
use Rattle.std.specs.Cmp.{ranked}
use Rattle.std.specs.FinMap.{entries, entries-insert, entries_sorted, find, get, get-entries, is_sorted, put}
use Rattle.std.specs.Ordering.{eq_by_cmp, is_eq, is_lt, nat_cmp}
use Rattle.std.specs.declared.cmp.Ordering.TheVariants.{Less, Equal, Greater}

-- f of the value, if there is one
abbrev pub part : {X : Type 0} → (X → ℕ) → Option X → ℕ
part f None = 0
part f (Some x) = f x

less_than : (a b : ℕ) → nat_cmp a b ≡ Less → a < b
less_than a b e = ranked a b Less (sym e)

untied : (a b : ℕ) → a < b → eq_by_cmp nat_cmp a b ≡ false
untied a b lt = from (nat_cmp a b) refl where
  from : (o : Ordering) → nat_cmp a b ≡ o → is_eq o ≡ false
  from Less e = refl
  from Equal e = let same : a ≡ b = ranked a b Equal (sym e) in absurd (omega arith)
  from Greater e = refl

find_below : {X : Type 0} (k : ℕ) (e : ℕ × X) (es : List (ℕ × X)) → k < e.0 → T (is_sorted nat_cmp (e ∷ es)) → find nat_cmp k (e ∷ es) ≡ None
find_below k e [] lt h = ap (λ b. if b then Some e.1 else None) (untied k e.0 lt)
find_below k e (d ∷ ds) lt h =
    let both = both_told _ (is_sorted nat_cmp (d ∷ ds)) h in
    let next = below e.0 d.0 (both_told (is_lt (nat_cmp e.0 d.0)) _ both.0).0 in
    let apart : k < d.0 = omega (arith, next) in
    ap (λ b. if b then Some e.1 else find nat_cmp k (d ∷ ds)) (untied k e.0 lt) ∙ find_below k d ds apart both.1

sum_put : {X : Type 0} (f : X → ℕ) (k : ℕ) (v : X) (es : List (ℕ × X)) → T (is_sorted nat_cmp es)
    → sum_by f (map (λ e. e.1) (put nat_cmp k v es)) + part f (find nat_cmp k es) ≡ sum_by f (map (λ e. e.1) es) + f v
sum_put f k v [] h = omega (arith, sum_by-cons f v [])
sum_put f k v (e ∷ es) h = from (sum_put f k v es (both_told _ (is_sorted nat_cmp es) h).1) (nat_cmp k e.0) refl where
  from : sum_by f (map (λ e. e.1) (put nat_cmp k v es)) + part f (find nat_cmp k es) ≡ sum_by f (map (λ e. e.1) es) + f v → (o : Ordering) → nat_cmp k e.0 ≡ o
      → sum_by f (map (λ x. x.1) (put nat_cmp k v (e ∷ es))) + part f (find nat_cmp k (e ∷ es)) ≡ sum_by f (map (λ x. x.1) (e ∷ es)) + f v
  from rest Less is = let none = ap (part f) (find_below k e es (less_than k e.0 is) h) in rw is (let n : part f (find nat_cmp k es) ≡ 0 = rw is at none in
      omega (arith, n, sum_by-cons f e.1 (map (λ x. x.1) es), sum_by-cons f v (e.1 ∷ map (λ x. x.1) es)))
  from rest Equal is = rw is (omega (arith, sum_by-cons f e.1 (map (λ x. x.1) es), sum_by-cons f v (map (λ x. x.1) es)))
  from rest Greater is = rw is (omega (arith, rest, sum_by-cons f e.1 (map (λ x. x.1) es), sum_by-cons f e.1 (map (λ x. x.1) (put nat_cmp k v es))))

-- the rows with a book set: those of the others, and its own
pub rows-with_book : (h : Host) (b : ℕ) (book : BookValue)
    → rows (with_book h b (Some book)) + part book_row_count (get h.books b) ≡ rows h + book_row_count book
rows-with_book h b book =
    let put_in = sum_put book_row_count b book (entries h.books) (entries_sorted h.books) in
    ap (λ es. sum_by book_row_count (map (λ e. e.1) es) + part book_row_count (get h.books b)) (entries-insert nat_cmp_total h.books b book)
    ∙ ap (λ o. sum_by book_row_count (map (λ e. e.1) (put nat_cmp b book (entries h.books))) + part book_row_count o) (get-entries h.books b) ∙ put_in
