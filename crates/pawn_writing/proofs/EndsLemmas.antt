-- Lemmas on what is written in several writes.
use Rattle.pawn_writing.specs.Ends.{is_write_failure}
use Rattle.std.proofs.Common.{◌≡◌, ℕ, ◌+◌, ◌-◌, Bool, false, List, [], ◌∷◌, length, take, drop, Option, Ok, subst, sym}
use Rattle.std.proofs.Common.{arith, ◌||◌}
use Rattle.std.proofs.KnownBytes.{Appends-trans}
use Rattle.std.proofs.Math.Seq.{take-add}
use Rattle.std.proofs.lemmas.Bool.Decides.{nat_tests}
use Rattle.std.proofs.lemmas.List.{take_rest}
use Rattle.std.specs.Io.KnownBytes.{Appends}

-- a write of the rest goes on where the writes before it stopped
pub sent_more : (a b c : Option (List ℕ)) (xs : List ℕ) (s n : ℕ) → Appends a b (take s xs) → Appends b c (take n (take (length xs - s) (drop s xs)))
    → Appends a c (take (s + n) xs)
sent_more a b c xs s n first second =
    let second' : Appends b c (take n (drop s xs)) = subst (λ (r : List ℕ). Appends b c (take n r)) (take_rest xs s) second in
    subst (λ (r : List ℕ). Appends a c r) (sym (take-add s n xs)) (Appends-trans a b c (take s xs) (take n (drop s xs)) first second')

pub not_failed : (E : Type 0) (before : Bool) (n : ℕ) (bs : List ℕ) → before ≡ false → (n ≡ 0 → ⊥) → (before || is_write_failure {E = E} (Ok n) bs) ≡ false
not_failed E before n [] e h = grind (arith, nat_tests)
not_failed E before n (b ∷ bs) e h = grind (arith, nat_tests)
