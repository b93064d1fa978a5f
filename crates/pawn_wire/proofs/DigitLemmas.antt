-- Short numerals.
use Rattle.pawn_reply.proofs.DayLemmas.{both_true}
use Rattle.pawn_wire.specs.Common.{AllDigits, digit_value, digits_value, is_ascii_digit, list_all}
use Rattle.pawn_wire.specs.Limits.{most_digits}
use Rattle.pawn_wire.specs.Numeral.{is_short_numeral}
use Rattle.std.proofs.Common.{◌≡◌, ℕ, zero, suc, ◌+◌, ◌*◌, ◌-◌, ◌^◌, ◌<◌, ◌≤◌, List, [], ◌∷◌, length, take, get_or}
use Rattle.std.proofs.Common.{refl, arith, Bool, true, false, length-take, lit<, IsTrue, ◌&&◌, nat_lt, nat_le}
use Rattle.std.proofs.Math.Nat.{pow-le-pow_right}
use Rattle.std.proofs.lemmas.Grind.{common_steps}
use Rattle.std.proofs.lemmas.Int.Digits.{digits_value-lt, digits_value_push}
use Rattle.std.proofs.lemmas.List.{take_more}
use Rattle.std.proofs.lemmas.Str.Parse.{digit_at}

pub digit_small : (c : ℕ) → IsTrue (is_ascii_digit c) → (digit_value c ≡ c - 48) × (48 ≤ c) × (c < 58)
digit_small c h = grind (arith, common_steps)

pub all_digits : (v : List ℕ) → IsTrue (list_all is_ascii_digit v) → AllDigits 10 v
all_digits [] h = tt
all_digits (c ∷ cs) h =
    let two = both_true (is_ascii_digit c) (list_all is_ascii_digit cs) h in
    let d = digit_small c two.0 in
    (omega arith, all_digits cs two.1)

pub digits_take : (n : ℕ) (v : List ℕ) → AllDigits 10 v → AllDigits 10 (take n v)
digits_take zero v h = tt
digits_take (suc n) [] h = tt
digits_take (suc n) (c ∷ cs) h = (h.0, digits_take n cs h.1)

pub short_numeral : (v : List ℕ) → IsTrue (is_short_numeral v) → AllDigits 10 v × (0 < length v) × (length v ≤ most_digits)
short_numeral v h =
    let outer = both_true (nat_lt 0 (length v) && nat_le (length v) most_digits) (list_all is_ascii_digit v) h in
    let sizes = both_true (nat_lt 0 (length v)) (nat_le (length v) most_digits) outer.0 in
    (all_digits v outer.1, grind arith, grind arith)

pub value_bound : (v : List ℕ) (i : ℕ) → AllDigits 10 v → i ≤ 18 → digits_value 10 (take i v) < 10 ^ 18
value_bound v i h le =
    let a : digits_value 10 (take i v) < 10 ^ length (take i v) = digits_value-lt 10 (take i v) (digits_take i v h) in
    let small : length (take i v) ≤ 18 = rw length-take (omega arith) in
    let b : 10 ^ length (take i v) ≤ 10 ^ 18 = pow-le-pow_right (lit< tt) small in
    omega arith

pub digit_at_small : (v : List ℕ) (i : ℕ) → AllDigits 10 v → i < length v → digit_value (get_or v i 0) ≡ get_or v i 0 - 48
digit_at_small v i h lt =
    let r = digit_at v i h lt in
    grind (arith, common_steps, r)

pub value_more : (v : List ℕ) (i n d : ℕ) → AllDigits 10 v → i < length v → n ≡ digits_value 10 (take i v) → d ≡ get_or v i 0 - 48
    → n * 10 + d ≡ digits_value 10 (take (i + 1) v)
value_more v i n d h lt e f =
    rw (take_more v i 0 lt, digits_value_push) (let g : digit_value (get_or v i 0) ≡ get_or v i 0 - 48 = digit_at_small v i h lt in omega arith)
