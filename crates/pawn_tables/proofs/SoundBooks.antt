-- What is kept of a sound host's books can be read of their rows.
use Rattle.pawn_tables.proofs.Basics.{cond_both}
use Rattle.pawn_tables.proofs.BookReads.{next_of, is_next}
use Rattle.pawn_tables.specs.Common.{get, IsNumber, PledgeValue, BookValue, with_reference, Host, IsNextBook, number_of}
use Rattle.pawn_tables.specs.Common.{AreNumberedFrom, is_same_text, HasUnsoundBook, IsSoundAt, IsUnsoundAt, KeepError}
use Rattle.pawn_tables.specs.Common.{Database, NoRecord}
use Rattle.pawn_tables.specs.Finding.{Finds}
use Rattle.pawn_tables.specs.Heads.{HasKeys, IsHeadDecodable}
use Rattle.pawn_tables.specs.StandsFor.{AreStorable}
use Rattle.std.proofs.Common.{◌≡◌, ℕ, ◌+◌, ◌≤◌, List, [], ◌∷◌, length, Option, Some, None, Result, Ok, Err, refl, arith}
use Rattle.std.proofs.Common.{option_map, IfSome}
use Rattle.pawn_book.specs.declared.fault.KeepError.TheVariants as Keeper

module _ (h : Host) (b : ℕ) where
  -- where a fact that sound books have fails of this one, it is not sound
  pub unsound_book : (Q : Option BookValue → Type 0) → Q None → ((k : BookValue) → IsSoundAt b k → Q (Some k)) → (Q (get h.books b) → ⊥) → IsUnsoundAt b h
  unsound_book Q none some bad = inside (get h.books b) refl bad where
    inside : (o : Option BookValue) → get h.books b ≡ o → (Q o → ⊥) → IsUnsoundAt b h
    inside None is bad = absurd (bad none)
    inside (Some k) is bad = (k, is, λ sound. bad (some k sound))

  pub head_unsound : (IfSome (get h.books b) IsHeadDecodable → ⊥) → IsUnsoundAt b h
  head_unsound bad = unsound_book (λ o. IfSome o IsHeadDecodable) tt
      (λ k sound. record { name = (sound.1.name, sound.1.utf8); capacity = sound.1.capacity }) bad

  -- the number of a pledge that stands is such
  numbers_in : (s : List ℕ) (k : ℕ) (ps : List PledgeValue) → AreNumberedFrom k ps → 1 ≤ k → k + length ps ≤ 1000001
      → IfSome (option_map (λ (p : PledgeValue). p.agreement.number) (with_reference ps s)) IsNumber
  numbers_in s k [] numbered low few = tt
  numbers_in s k (p ∷ ps) numbered low few = let at = numbered.0 in
      cond_both (is_same_text p.agreement.opening.reference s) _ _ (λ o. IfSome (option_map (λ (q : PledgeValue). q.agreement.number) o) IsNumber)
      (λ _. (omega (arith, at, low), omega (arith, at, few))) (λ _. numbers_in s (k + 1) ps numbered.1 (omega arith) (omega (arith, few)))

  pub ref_unsound : (s : List ℕ) → (IfSome (number_of (get h.books b) s) IsNumber → ⊥) → IsUnsoundAt b h
  ref_unsound s bad = unsound_book (λ o. IfSome (number_of o s) IsNumber) tt
      (λ k sound. let fits = sound.1.rows.few_pledges in numbers_in s 1 k.pledges sound.1.rows.numbered (omega arith) (omega (arith, fits))) bad

  -- the keys of books are words
  pub keys_in : AreStorable h → IfSome (get h.books b) HasKeys
  keys_in storable = inside (get h.books b) refl where
    inside : (o : Option BookValue) → get h.books b ≡ o → IfSome o HasKeys
    inside None is = tt
    inside (Some k) is = record { key = (storable b k is).key; imported = (storable b k is).imported }

pub next_unsound : (h : Host) (n : ℕ) → (IfSome (next_of h n) IsNumber → ⊥) → HasUnsoundBook h
next_unsound h n bad = go (next_of h n) (is_next h n) bad where
  go : (o : Option ℕ) → IsNextBook h n o → (IfSome o IsNumber → ⊥) → HasUnsoundBook h
  go None is bad = absurd (bad tt)
  go (Some b) is bad = (b, (is.1.0, is.1.1, λ sound. bad sound.0))

-- what was found, in other words
pub finds_as : {A : Type 0} (r : Result A KeepError) (P Q : A → Type 0) (R U : Type 0) → ((x : A) → P x → Q x) → Finds r (λ x. P x × R) U
    → Finds r (λ x. Q x × R) U
finds_as (Ok x) P Q R U as_q f = (as_q x f.0, f.1)
finds_as (Err Keeper.Memory) P Q R U as_q f = tt
finds_as (Err (Keeper.Store NoRecord)) P Q R U as_q f = f
finds_as (Err (Keeper.Store Database)) P Q R U as_q f = tt
