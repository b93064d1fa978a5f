-- The texts of days.
use Rattle.pawn_reply.specs.Common.{Civil, IsAscii, civil_of, civil_text, day_text, list_all}
use Rattle.pawn_reply.specs.Laws.{is_unescaped}
use Rattle.std.proofs.Common.{◌≡◌, ℕ, zero, suc, ◌+◌, ◌<◌, ◌%◌, List, [], ◌∷◌, Bool, true, false, refl, arith, IsTrue}
use Rattle.std.proofs.Common.{◌&&◌, nat_le, nat_lt, not, ◌==◌}
use Rattle.std.proofs.lemmas.Bool.Decides.{nat_tests}
use Rattle.std.proofs.lemmas.Grind.{common_steps}

pub both_true : (a b : Bool) → IsTrue (a && b) → IsTrue a × IsTrue b
both_true true b h = (refl, h)
both_true false b h = absurd (cc)

-- a test that digits and the hyphen pass is passed by each byte of a day's text
each_passes : (test : ℕ → Bool) → ((m : ℕ) → m < 10 → test (48 + m) ≡ true) → test 45 ≡ true → (c : Civil) → list_all test (civil_text c) ≡ true
each_passes test digits hyphen c = simp (passes, hyphen) where
  passes : (n : ℕ) → test (48 + n % 10) ≡ true
  passes n = digits (n % 10) (omega arith)

all_ascii : (s : List ℕ) → IsTrue (list_all (λ b. nat_lt b 128) s) → IsAscii s
all_ascii [] h i = omega arith
all_ascii (b ∷ bs) h zero = (let two = both_true (nat_lt b 128) (list_all (λ b. nat_lt b 128) bs) h in grind (arith, nat_tests, two.0))
all_ascii (b ∷ bs) h (suc i) = (let two = both_true (nat_lt b 128) (list_all (λ b. nat_lt b 128) bs) h in all_ascii bs two.1 i)

-- a day's text is ASCII
pub day_ascii : (day : ℕ) → IsAscii (day_text day)
day_ascii day = all_ascii (day_text day) (each_passes (λ b. nat_lt b 128) small refl (civil_of day)) where
  small : (m : ℕ) → m < 10 → nat_lt (48 + m) 128 ≡ true
  small m h = grind (arith, nat_tests)

-- JSON writes a day's text as it is
pub day_plain : (day : ℕ) → IsTrue (is_unescaped (day_text day))
day_plain day = each_passes (λ b. nat_le 32 b && not (b == 34) && not (b == 92)) plain refl (civil_of day) where
  plain : (m : ℕ) → m < 10 → (nat_le 32 (48 + m) && not ((48 + m) == 34) && not ((48 + m) == 92)) ≡ true
  plain m h = grind (arith, common_steps, nat_tests)
