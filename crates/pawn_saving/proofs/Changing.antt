-- What becomes of the rows of a host where a book is put, or put anew.
use Rattle.pawn_saving.proofs.Basics.{both_pass, is_passed, IsPermutation-append, IsPermutation-append_comm}
use Rattle.pawn_saving.proofs.Basics.{IsPermutation-cons, IsPermutation-refl, IsPermutation-same, swapped}
use Rattle.pawn_tables.proofs.Basics.{nat_tests, IsPermutation-sym, IsPermutation-trans}
use Rattle.pawn_tables.specs.Common.{entries, entries_sorted, find, get, get-entries, insert, is_sorted, is_eq, nat_cmp}
use Rattle.std.proofs.Common.{◌≡◌, ◌++◌, ℕ, List, [], ◌∷◌, append_assoc, false, cond, Some, None, T, refl, sym, ap}
use Rattle.std.proofs.Common.{subst, ◌∙◌, arith, IsPermutation, is_lt}
use Rattle.std.proofs.lemmas.Cmp.{nat_cmp_total}
use Rattle.std.specs.FinMap.{FinMap, entries-insert, put}
use Rattle.std.specs.FinMap.Entries.{by_order, below_all}
use Rattle.std.specs.declared.cmp.Ordering.{Ordering}
use Rattle.std.specs.declared.cmp.Ordering.TheVariants.{Less, Equal, Greater}

apart : (n m k : ℕ) → nat_cmp n m ≡ Less → T (is_lt (nat_cmp m k)) → is_eq (nat_cmp n k) ≡ false
apart n m k h t = let e = is_passed _ t in grind (arith, nat_tests, h, e)

none_above : {X : Type 0} (n m : ℕ) (es : List (ℕ × X)) → nat_cmp n m ≡ Less → T (below_all nat_cmp m es) → find nat_cmp n es ≡ None
none_above n m [] h t = refl
none_above n m (e ∷ es) h t = ap (λ b. cond b (Some e.1) (find nat_cmp n es)) (apart n m e.0 h (both_pass _ _ t).0) ∙ none_above n m es h (both_pass _ _ t).1

same_key : (m n : ℕ) → nat_cmp n m ≡ Equal → m ≡ n
same_key m n h = grind (arith, nat_tests, h)

abbrev Taken : {X : Type 0} → ℕ → X → List (ℕ × X) → Type 0
Taken {X} n b es = (rest : List (ℕ × X)) × IsPermutation es ((n, b) ∷ rest) × ((new : X) → IsPermutation (put nat_cmp n new es) ((n, new) ∷ rest))

taken : {X : Type 0} (n : ℕ) (b : X) (es : List (ℕ × X)) → T (is_sorted nat_cmp es) → find nat_cmp n es ≡ Some b → Taken n b es
taken n b [] up h = absurd (let e = h in cc)
taken {X} n b (e ∷ es) up h = go (nat_cmp n e.0) refl h (taken n b es (both_pass _ _ up).1) where
  go : (o : Ordering) → nat_cmp n e.0 ≡ o → cond (is_eq o) (Some e.1) (find nat_cmp n es) ≡ Some b → (find nat_cmp n es ≡ Some b → Taken n b es)
      → (rest : List (ℕ × X)) × IsPermutation (e ∷ es) ((n, b) ∷ rest)
      × ((new : X) → IsPermutation (by_order o ((n, new) ∷ e ∷ es) ((e.0, new) ∷ es) (e ∷ put nat_cmp n new es)) ((n, new) ∷ rest))
  go Less is h more = absurd (let none = none_above n e.0 es is (both_pass _ _ up).0 in let e = sym none ∙ h in cc)
  go Equal is h more = let key = same_key e.0 n is in
      let value : e.1 ≡ b = let x = h in cc in (
        es,
        subst (λ p. IsPermutation (e ∷ es) (p ∷ es)) (λ i. (key i, value i)) (IsPermutation-refl _),
        λ new. subst (λ k. IsPermutation ((e.0, new) ∷ es) ((k, new) ∷ es)) key (IsPermutation-refl _),
      )
  go Greater is h more = let it = more h in (
    e ∷ it.0,
    IsPermutation-trans _ _ _ (IsPermutation-cons e _ _ it.1) (swapped e (n, b) it.0),
    λ new. IsPermutation-trans _ _ _ (IsPermutation-cons e _ _ (it.2 new)) (swapped e (n, new) it.0),
  )

-- the entries are that of the key and others, which stay where the key gets a new value
pub replaced : {X : Type 0} (all : FinMap nat_cmp X) (n : ℕ) (b : X) → get all n ≡ Some b
    → (rest : List (ℕ × X)) × IsPermutation (entries all) ((n, b) ∷ rest) × ((new : X) → IsPermutation (entries (insert all n new)) ((n, new) ∷ rest))
replaced all n b h = let it = taken n b (entries all) (entries_sorted all) (sym (get-entries all n) ∙ h) in
    (it.0, it.1, λ new. subst (λ es. IsPermutation es ((n, new) ∷ it.0)) (sym (entries-insert nat_cmp_total all n new)) (it.2 new))

put_entry : {X : Type 0} (n : ℕ) (v : X) (es : List (ℕ × X)) → find nat_cmp n es ≡ None → IsPermutation ((n, v) ∷ es) (put nat_cmp n v es)
put_entry n v [] h = IsPermutation-refl _
put_entry {X} n v (e ∷ es) h = go (nat_cmp n e.0) h (put_entry n v es) where
  go : (o : Ordering) → cond (is_eq o) (Some e.1) (find nat_cmp n es) ≡ None → (find nat_cmp n es ≡ None → IsPermutation ((n, v) ∷ es) (put nat_cmp n v es))
      → IsPermutation ((n, v) ∷ e ∷ es) (by_order o ((n, v) ∷ e ∷ es) ((e.0, v) ∷ es) (e ∷ put nat_cmp n v es))
  go Less h more = IsPermutation-refl _
  go Equal h more = absurd (let x = h in cc)
  go Greater h more = IsPermutation-trans _ _ _ (swapped (n, v) e es) (IsPermutation-cons e _ _ (more h))

-- an entry at a new key only joins the others
pub joined : {X : Type 0} (all : FinMap nat_cmp X) (n : ℕ) (b : X) → get all n ≡ None → IsPermutation (entries (insert all n b)) ((n, b) ∷ entries all)
joined all n b none = IsPermutation-sym _ _
    (subst (IsPermutation ((n, b) ∷ entries all)) (sym (entries-insert nat_cmp_total all n b)) (put_entry n b (entries all) (sym (get-entries all n) ∙ none)))

-- rows beside others: what is more of them joins what there was
pub more_joined : {X : Type 0} (own next more rest before after : List X) → IsPermutation before (own ++ rest) → IsPermutation after (next ++ rest)
    → next ≡ own ++ more → IsPermutation after (more ++ before)
more_joined own next more rest before after was now is =
    IsPermutation-trans _ _ _ (subst (λ l. IsPermutation after (l ++ rest)) is now) (IsPermutation-trans _ _ _
    (IsPermutation-append (own ++ more) (more ++ own) rest rest (IsPermutation-append_comm own more) (IsPermutation-refl rest)) (IsPermutation-trans _ _ _
    (IsPermutation-same _ _ (append_assoc more own rest)) (IsPermutation-append more more _ _ (IsPermutation-refl more) (IsPermutation-sym _ _ was))))
