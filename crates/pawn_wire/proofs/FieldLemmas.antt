-- The fields of a head.
use Rattle.pawn_wire.specs.Common.{Bor, HeaderSpan, cons_option, header_bytes, list_any, str_eq_ignore_ascii_case}
use Rattle.pawn_wire.specs.Fields.{values_of, value_under, IsFound}
use Rattle.pawn_wire.specs.Types.{Missing, One, Several, Found}
use Rattle.std.proofs.Common.{◌≡◌, ℕ, ◌+◌, ◌<◌, List, [], ◌∷◌, ◌++◌, length, map, take, get_or, refl, ap, subst, ◌∙◌}
use Rattle.std.proofs.Common.{arith, Some, None, Bool, true, false, append-nil, length-append, ◌&&◌, ◌||◌}
use Rattle.std.proofs.Common.{if◌then◌else◌}
use Rattle.std.proofs.Math.Bool.{or-false}
use Rattle.std.proofs.lemmas.List.{map_more}
use Rattle.std.proofs.lemmas.List.Elements.{filter_map-append}
use Rattle.std.proofs.lemmas.List.Folds.{list_any-append}

abbrev pub no_span : HeaderSpan
no_span = record { name = record { start = 0; end = 0 }; value = record { start = 0; end = 0 } }

-- the values after one more field
pub values_more : (name bytes : List ℕ) (fs : List HeaderSpan) (i : ℕ) (d : HeaderSpan) → i < length fs → values_of name (map (header_bytes bytes)
    (take (i + 1) fs)) ≡ values_of name (map (header_bytes bytes) (take i fs)) ++ cons_option (value_under name (header_bytes bytes (get_or fs i d))) []
values_more name bytes fs i d h = ap (values_of name) (map_more (header_bytes bytes) fs i d h)
    ∙ filter_map-append (value_under name) (map (header_bytes bytes) (take i fs)) (header_bytes bytes (get_or fs i d) ∷ [])

found_pass : (vs : List (List ℕ)) (f : Found) → IsFound vs f → IsFound (vs ++ []) f
found_pass vs f h = rw append-nil h

found_first : (vs : List (List ℕ)) (value : Bor (List ℕ)) → IsFound vs Missing → IsFound (vs ++ value.now ∷ []) (One value)
found_first vs value h = ap (λ xs. xs ++ value.now ∷ []) h

found_again : (vs : List (List ℕ)) (v : List ℕ) (f : Found) → IsFound vs f → (f ≡ Missing → ⊥) → IsFound (vs ++ v ∷ []) Several
found_again vs v Missing h other = absurd (other refl)
found_again vs v (One value) h other = simp length-append (omega (arith, ap length h))
found_again vs v Several h other = simp length-append (omega arith)

module _ (name bytes : List ℕ) (fs : List HeaderSpan) (i : ℕ) (d : HeaderSpan) (fits : i < length fs) where
  pub find_other : (f : Found) → str_eq_ignore_ascii_case (header_bytes bytes (get_or fs i d)).0 name ≡ false
      → IsFound (values_of name (map (header_bytes bytes) (take i fs))) f → IsFound (values_of name (map (header_bytes bytes) (take (i + 1) fs))) f
  find_other f e h = rw (values_more name bytes fs i d fits, e) (found_pass _ f h)

  pub find_first : (value : Bor (List ℕ)) → value.now ≡ (header_bytes bytes (get_or fs i d)).1
      → str_eq_ignore_ascii_case (header_bytes bytes (get_or fs i d)).0 name ≡ true → IsFound (values_of name (map (header_bytes bytes) (take i fs))) Missing
      → IsFound (values_of name (map (header_bytes bytes) (take (i + 1) fs))) (One value)
  find_first value is e h = rw (values_more name bytes fs i d fits, e)
      (subst (λ (v : List ℕ). IsFound (values_of name (map (header_bytes bytes) (take i fs)) ++ v ∷ []) (One value)) is (found_first _ value h))

  pub find_again : (f : Found) → str_eq_ignore_ascii_case (header_bytes bytes (get_or fs i d)).0 name ≡ true
      → IsFound (values_of name (map (header_bytes bytes) (take i fs))) f → (f ≡ Missing → ⊥)
      → IsFound (values_of name (map (header_bytes bytes) (take (i + 1) fs))) Several
  find_again f e h other = rw (values_more name bytes fs i d fits, e) (found_again _ _ f h other)

  -- one more field, with a test of its value
  pub says_more : (t : List ℕ → Bool)
      → list_any t (values_of name (map (header_bytes bytes) (take (i + 1) fs))) ≡ (list_any t (values_of name (map (header_bytes bytes) (take i fs)))
      || (str_eq_ignore_ascii_case (header_bytes bytes (get_or fs i d)).0 name && t (header_bytes bytes (get_or fs i d)).1))
  says_more t = rw (values_more name bytes fs i d fits, list_any-append) (ap (λ b. list_any t (values_of name (map (header_bytes bytes) (take i fs))) || b)
      (one (str_eq_ignore_ascii_case (header_bytes bytes (get_or fs i d)).0 name)))
    where
      one : (b : Bool)
          → list_any t (cons_option (if b then Some (header_bytes bytes (get_or fs i d)).1 else None) []) ≡ (b && t (header_bytes bytes (get_or fs i d)).1)
      one true = or-false (t (header_bytes bytes (get_or fs i d)).1)
      one false = refl

  pub count_other : str_eq_ignore_ascii_case (header_bytes bytes (get_or fs i d)).0 name ≡ false
      → length (values_of name (map (header_bytes bytes) (take (i + 1) fs))) ≡ length (values_of name (map (header_bytes bytes) (take i fs)))
  count_other e = rw (values_more name bytes fs i d fits, e, append-nil)

  pub count_hit : str_eq_ignore_ascii_case (header_bytes bytes (get_or fs i d)).0 name ≡ true
      → length (values_of name (map (header_bytes bytes) (take (i + 1) fs))) ≡ length (values_of name (map (header_bytes bytes) (take i fs))) + 1
  count_hit e = rw (values_more name bytes fs i d fits, e, length-append)

  pub values_other : str_eq_ignore_ascii_case (header_bytes bytes (get_or fs i d)).0 name ≡ false
      → values_of name (map (header_bytes bytes) (take (i + 1) fs)) ≡ values_of name (map (header_bytes bytes) (take i fs))
  values_other e = rw (values_more name bytes fs i d fits, e, append-nil)

  pub values_hit : str_eq_ignore_ascii_case (header_bytes bytes (get_or fs i d)).0 name ≡ true → values_of name
      (map (header_bytes bytes) (take (i + 1) fs)) ≡ values_of name (map (header_bytes bytes) (take i fs)) ++ (header_bytes bytes (get_or fs i d)).1 ∷ []
  values_hit e = rw (values_more name bytes fs i d fits, e)
