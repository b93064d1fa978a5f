-- The bytes that hexadecimal digits write.
use Rattle.pawn_program.specs.Settings.{hex_byte, hex_bytes}
use Rattle.std.proofs.Common.{◌≡◌, ℕ, suc, ◌+◌, ◌*◌, ◌<◌, List, [], ◌∷◌, ◌++◌, length, take, drop, get_or, Option, Some}
use Rattle.std.proofs.Common.{None, option_map, refl, sym, ap, ◌∙◌, arith, drop-cons, append_assoc, option_and_then}
use Rattle.std.proofs.Common.{slice_set, take_all}
use Rattle.std.proofs.lemmas.Grind.{take-set_at}
use Rattle.std.proofs.lemmas.List.{drop_all}

-- these bytes and then those
abbrev pub after_bytes : List ℕ → Option (List ℕ) → Option (List ℕ)
after_bytes front rest = option_map (λ bytes. front ++ bytes) rest

-- a byte and then those
abbrev pub with_byte : Option (List ℕ) → Option ℕ → Option (List ℕ)
with_byte rest byte = option_and_then (λ b. option_map (λ bytes. b ∷ bytes) rest) byte

-- the next two digits
two_digits : (text : List ℕ) (k : ℕ) → suc k < length text
    → hex_bytes (drop k text) ≡ with_byte (hex_bytes (drop (suc (suc k)) text)) (hex_byte (get_or text k 0) (get_or text (suc k) 0))
two_digits text k fits = ap hex_bytes (drop-cons text k 0 (omega arith) ∙ ap (λ (l : List ℕ). get_or text k 0 ∷ l) (drop-cons text (suc k) 0 fits))

one_more : (front : List ℕ) (rest : Option (List ℕ)) (b : ℕ) → after_bytes front (with_byte rest (Some b)) ≡ after_bytes (front ++ b ∷ []) rest
one_more front None b = refl
one_more front (Some bytes) b = ap Some (sym (append_assoc front (b ∷ []) bytes))

module _ (text : List ℕ) (i : ℕ) (fits : 2 * i + 1 < length text) where
  digits_here : hex_bytes (drop (2 * i) text) ≡ with_byte (hex_bytes (drop (2 * (i + 1)) text)) (hex_byte (get_or text (2 * i) 0) (get_or text (2 * i + 1) 0))
  digits_here =
      let next : suc (2 * i) ≡ 2 * i + 1 = omega arith in
      let rest : suc (suc (2 * i)) ≡ 2 * (i + 1) = omega arith in
      two_digits text (2 * i) (omega arith) ∙ (λ j. with_byte (hex_bytes (drop (rest j) text)) (hex_byte (get_or text (2 * i) 0) (get_or text (next j) 0)))

  -- a byte is written
  pub byte_more : (seed : List ℕ) (b : ℕ) → i < length seed → hex_bytes text ≡ after_bytes (take i seed) (hex_bytes (drop (2 * i) text))
      → hex_byte (get_or text (2 * i) 0) (get_or text (2 * i + 1) 0) ≡ Some b
      → hex_bytes text ≡ after_bytes (take (i + 1) (slice_set seed i b)) (hex_bytes (drop (2 * (i + 1)) text))
  byte_more seed b room so_far byte =
      let rest = hex_bytes (drop (2 * (i + 1)) text) in
      so_far ∙ ap (after_bytes (take i seed)) (digits_here ∙ ap (with_byte rest) byte) ∙ one_more (take i seed) rest b
      ∙ ap (λ (front : List ℕ). after_bytes front rest) (sym (take-set_at seed i (i + 1) b refl room))

  -- two bytes that are no digits
  pub no_byte : (seed : List ℕ) → hex_bytes text ≡ after_bytes (take i seed) (hex_bytes (drop (2 * i) text))
      → hex_byte (get_or text (2 * i) 0) (get_or text (2 * i + 1) 0) ≡ None → hex_bytes text ≡ None
  no_byte seed so_far byte = so_far ∙ ap (after_bytes (take i seed)) (digits_here ∙ ap (with_byte (hex_bytes (drop (2 * (i + 1)) text))) byte)

-- all are written
pub all_bytes : (text seed : List ℕ) (i : ℕ) → length text ≡ 2 * i → length seed ≡ i
    → hex_bytes text ≡ after_bytes (take i seed) (hex_bytes (drop (2 * i) text)) → hex_bytes text ≡ Some seed
all_bytes text seed i digits bytes so_far = so_far ∙ ap (λ (rest : List ℕ). after_bytes (take i seed) (hex_bytes rest)) (drop_all (2 * i) text (omega arith))
    ∙ ap Some (append_nil (take i seed) ∙ take_all i seed (omega arith)) where
      append_nil : (xs : List ℕ) → xs ++ [] ≡ xs
      append_nil [] = refl
      append_nil (x ∷ xs) = ap (λ (l : List ℕ). x ∷ l) (append_nil xs)
