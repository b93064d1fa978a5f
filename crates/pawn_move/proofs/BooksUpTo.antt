-- The books of a host up to a number.
use Rattle.pawn_move.proofs.Basics.{both_told, below}
use Rattle.pawn_opening.specs.Common.{Row, Host}
use Rattle.pawn_tables.proofs.BookReads.{below_key}
use Rattle.pawn_tables.specs.Common.{entries, entries_sorted, find_key, get, get-entries, is_sorted, is_eq, nat_cmp}
use Rattle.pawn_tables.specs.Common.{BookValue, IsNextBook}
use Rattle.pawn_tables.specs.StandsFor.{of_books}
use Rattle.std.proofs.Common.{◌≡◌, ◌≢◌, ◌==◌, ◌≤◌, ◌<◌, ◌++◌, ℕ, [], ◌∷◌, List, Bool, true, false, cond, Some, None, T}
use Rattle.std.proofs.Common.{filter, flat_map, nat_le, refl, sym, ap, subst, ◌∙◌, arith, append_assoc, append-nil}
use Rattle.std.proofs.lemmas.Bool.Decides.{nat_tests}
use Rattle.std.specs.FinMap.Entries.{below_all}

abbrev pub Entry : Type 0
Entry = ℕ × BookValue

-- of a list of entries, the one at its head
pub here_found : (e : Entry) (es : List Entry) → find_key nat_cmp e.0 (e ∷ es) ≡ Some e.1
here_found e es = let this : is_eq (nat_cmp e.0 e.0) ≡ true = grind (arith, nat_tests) in ap (λ c. cond c (Some e.1) (find_key nat_cmp e.0 es)) this

-- and another
pub past_head : (e : Entry) (es : List Entry) (b : ℕ) → b ≢ e.0 → find_key nat_cmp b (e ∷ es) ≡ find_key nat_cmp b es
past_head e es b apart = let other : is_eq (nat_cmp b e.0) ≡ false = grind (arith, nat_tests, apart) in
    ap (λ c. cond c (Some e.1) (find_key nat_cmp b es)) other

module _ (f : ℕ → BookValue → List Row) where
  abbrev pub rows_to : ℕ → List Entry → List Row
  rows_to a es = flat_map (λ (e : Entry). f e.0 e.1) (filter (λ (e : Entry). nat_le e.0 a) es)

  kept : (a : ℕ) (e : Entry) (es : List Entry) → e.0 ≤ a → rows_to a (e ∷ es) ≡ f e.0 e.1 ++ rows_to a es
  kept a e es le = let in' : nat_le e.0 a ≡ true = grind (arith, nat_tests, le) in
      ap (λ c. flat_map (λ (e : Entry). f e.0 e.1) (cond c (e ∷ filter (λ (e : Entry). nat_le e.0 a) es) (filter (λ (e : Entry). nat_le e.0 a) es))) in'

  left_out : (a : ℕ) (e : Entry) (es : List Entry) → a < e.0 → rows_to a (e ∷ es) ≡ rows_to a es
  left_out a e es lt = let out : nat_le e.0 a ≡ false = grind (arith, nat_tests, lt) in
      ap (λ c. flat_map (λ (e : Entry). f e.0 e.1) (cond c (e ∷ filter (λ (e : Entry). nat_le e.0 a) es) (filter (λ (e : Entry). nat_le e.0 a) es))) out

  none_to : (m a : ℕ) (es : List Entry) → T (below_all nat_cmp m es) → a ≤ m → rows_to a es ≡ []
  none_to m a [] up le = refl
  none_to m a (e ∷ es) up le = let b = below m e.0 (both_told _ _ up).0 in left_out a e es (omega (arith, b, le)) ∙ none_to m a es (both_told _ _ up).1 le

  -- where no book is numbered 0
  none_first : (es : List Entry) → find_key nat_cmp 0 es ≡ None → rows_to 0 es ≡ []
  none_first [] none = refl
  none_first (e ∷ es) none = go (none_first es) (e.0 == 0) refl where
    go : (find_key nat_cmp 0 es ≡ None → rows_to 0 es ≡ []) → (c : Bool) → (e.0 == 0) ≡ c → rows_to 0 (e ∷ es) ≡ []
    go more true is = let zero' : e.0 ≡ 0 = grind (arith, nat_tests, is) in
        absurd (let some = subst (λ k. find_key nat_cmp k (e ∷ es) ≡ Some e.1) zero' (here_found e es) in let x = sym none ∙ some in cc)
    go more false is = let up : 0 < e.0 = grind (arith, nat_tests, is) in
        let apart : 0 ≢ e.0 = λ same. absurd (omega (arith, same, up)) in
        left_out 0 e es up ∙ more (sym (past_head e es 0 apart) ∙ none)

  -- the next book's rows join
  one_next : (a b : ℕ) (k : BookValue) (es : List Entry) → T (is_sorted nat_cmp es) → a < b → find_key nat_cmp b es ≡ Some k
      → ((c : ℕ) (x : BookValue) → find_key nat_cmp c es ≡ Some x → a < c → b ≤ c) → rows_to b es ≡ rows_to a es ++ f b k
  one_next a b k [] sorted up at least = absurd (let e = at in cc)
  one_next a b k (e ∷ es) sorted up at least = go (one_next a b k es) (nat_le e.0 a) refl where
    later : a < e.0 → (b == e.0) ≡ true → rows_to b (e ∷ es) ≡ rows_to a (e ∷ es) ++ f b k
    later lt same' = let same : b ≡ e.0 = grind (arith, nat_tests, same') in
        let value : Some e.1 ≡ Some k = sym (here_found e es) ∙ ap (λ c. find_key nat_cmp c (e ∷ es)) (sym same) ∙ at in
        let value' : e.1 ≡ k = (let x = value in cc) in let rest = (both_told _ _ sorted).0 in
        kept b e es (omega (arith, same)) ∙ ap (λ l. f e.0 e.1 ++ l) (none_to e.0 b es rest (omega (arith, same))) ∙ append-nil _
        ∙ (λ i. f (sym same i) (value' i)) ∙ ap (λ l. l ++ f b k) (sym (left_out a e es lt ∙ none_to e.0 a es rest (omega (arith, lt))))

    by_key : a < e.0 → b ≤ e.0 → (d : Bool) → (b == e.0) ≡ d → rows_to b (e ∷ es) ≡ rows_to a (e ∷ es) ++ f b k
    by_key lt high true same = later lt same
    by_key lt high false other =
        let apart : b ≢ e.0 = λ same. absurd (let x : (b == e.0) ≡ true = grind (arith, nat_tests, same) in let y = sym x ∙ other in cc) in
        let behind = below_key e.0 es (both_told _ _ sorted).0 b k (sym (past_head e es b apart) ∙ at) in
        absurd (omega (arith, behind, high))

    go : (T (is_sorted nat_cmp es) → a < b → find_key nat_cmp b es ≡ Some k → ((c : ℕ) (x : BookValue) → find_key nat_cmp c es ≡ Some x → a < c → b ≤ c)
        → rows_to b es ≡ rows_to a es ++ f b k) → (c : Bool) → nat_le e.0 a ≡ c → rows_to b (e ∷ es) ≡ rows_to a (e ∷ es) ++ f b k
    go more true is = let le : e.0 ≤ a = grind (arith, nat_tests, is) in
        let apart : b ≢ e.0 = λ same. absurd (omega (arith, same, le, up)) in
        let rest = more (both_told _ _ sorted).1 up (sym (past_head e es b apart) ∙ at)
        (λ c x there lt. least c x (past_head e es c (λ same. absurd (omega (arith, same, le, lt))) ∙ there) lt) in
        kept b e es (omega (arith, le, up)) ∙ ap (λ l. f e.0 e.1 ++ l) rest ∙ sym (append_assoc (f e.0 e.1) (rows_to a es) (f b k))
        ∙ ap (λ l. l ++ f b k) (sym (kept a e es le))
    go more false is = let lt : a < e.0 = grind (arith, nat_tests, is) in
        let high = least e.0 e.1 (here_found e es) lt in
        by_key lt high (b == e.0) refl

  -- where none is above
  all_to : (a : ℕ) (es : List Entry) → T (is_sorted nat_cmp es) → ((c : ℕ) (x : BookValue) → find_key nat_cmp c es ≡ Some x → c ≤ a)
      → rows_to a es ≡ flat_map (λ (e : Entry). f e.0 e.1) es
  all_to a [] sorted last = refl
  all_to a (e ∷ es) sorted last = let le = last e.0 e.1 (here_found e es) in
      kept a e es le ∙ ap (λ l. f e.0 e.1 ++ l) (all_to a es (both_told _ _ sorted).1 (λ c x there. let behind =
      below_key e.0 es (both_told _ _ sorted).0 c x there in last c x (past_head e es c (λ same. absurd (omega (arith, same, behind))) ∙ there)))

  abbrev pub books_to : Host → ℕ → List Row
  books_to h a = rows_to a (entries h.books)

  pub to_first : (h : Host) → get h.books 0 ≡ None → books_to h 0 ≡ []
  to_first h none = none_first (entries h.books) (sym (get-entries h.books 0) ∙ none)

  pub to_next : (h : Host) (a b : ℕ) → IsNextBook h a (Some b) → (k : BookValue) → get h.books b ≡ Some k → books_to h b ≡ books_to h a ++ f b k
  to_next h a b is k at = one_next a b k (entries h.books) (entries_sorted h.books) is.0 (sym (get-entries h.books b) ∙ at)
      (λ c x there lt. is.2 c x (get-entries h.books c ∙ there) lt)

  pub to_last : (h : Host) (a : ℕ) → IsNextBook h a None → books_to h a ≡ of_books h f
  to_last h a is = all_to a (entries h.books) (entries_sorted h.books) (λ c x there. is c x (get-entries h.books c ∙ there))
