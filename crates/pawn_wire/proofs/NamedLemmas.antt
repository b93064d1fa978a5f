-- Numbers and days as texts.
use Rattle.pawn_reply.proofs.DayLemmas.{both_true}
use Rattle.pawn_terms.proofs.AgreementLemmas.{day_number-of}
use Rattle.pawn_terms.proofs.TextLemmas.{civil_of-request}
use Rattle.pawn_wire.proofs.DigitLemmas.{all_digits}
use Rattle.pawn_wire.specs.Common.{AllDigits, Civil, IsNumber, IsRequestDay, IsWritable, civil_of, civil_text, day_number}
use Rattle.pawn_wire.specs.Common.{day_text, digit, digit_value, digits_value, first_day, is_ascii_digit}
use Rattle.pawn_wire.specs.Common.{last_request_day, list_all}
use Rattle.pawn_wire.specs.Named.{number_said, day_said, is_numeral, civil_said, is_text_of_day}
use Rattle.std.proofs.Common.{◌≡◌, ℕ, zero, suc, ◌+◌, ◌*◌, ◌/◌, ◌%◌, ◌^◌, ◌<◌, ◌≤◌, List, [], ◌∷◌, length, take, drop}
use Rattle.std.proofs.Common.{get_or, lit<, subst, Bool, true, false, Option, Some, None, IfSome, IfNone, refl, sym, ap}
use Rattle.std.proofs.Common.{◌∙◌, arith, IsTrue, ◌==◌, nat_lt, nat_le, not, ◌&&◌, slice_index, bytes_eq, if◌then◌else◌}
use Rattle.std.proofs.Common.{decimal}
use Rattle.std.proofs.Math.Nat.{pow-le-pow_right}
use Rattle.std.proofs.lemmas.Bool.Decides.{nat_tests}
use Rattle.std.proofs.lemmas.Fmt.{decimal-digits_value, decimal_digit, decimal_is_IsNumeral, first_decimal}
use Rattle.std.proofs.lemmas.Fmt.{length-decimal-le}
use Rattle.std.proofs.lemmas.Grind.{common_steps}
use Rattle.std.proofs.lemmas.Int.Digits.{digits_value-lt}
use Rattle.std.proofs.lemmas.Slice.Eq.{bytes_eq-Decides}
use Rattle.std.proofs.lemmas.Str.{digit_value_digit}
use Rattle.std.proofs.lemmas.Str.Parse.{IsNumeralModel, digit_from_value}

-- ---- numbers of books and pledges

-- digits without a leading zero are the decimal text of their value
digits_model : IsNumeralModel (AllDigits 10) (digits_value 10)
digits_model = record { to = λ ds h. h; from = λ ds h. h; same = λ ds h. refl }

no_zero : (n : ℕ) → IsTrue (not (n == 48)) → n ≡ 48 → ⊥
no_zero n h e = grind (arith, nat_tests)

-- the parts of the test of a numeral
record IsNumeral (text : List ℕ) : Type 0 where
  digits : AllDigits 10 text
  some : 0 < length text
  few : length text ≤ 9
  no_leading_zero : get_or text 0 0 ≡ 48 → ⊥

numeral : (text : List ℕ) → IsTrue (is_numeral text) → IsNumeral text
numeral text h =
    let first = both_true (nat_lt 0 (length text) && nat_le (length text) 9 && list_all is_ascii_digit text) (not (slice_index text 0 == 48)) h in
    let inner = both_true (nat_lt 0 (length text) && nat_le (length text) 9) (list_all is_ascii_digit text) first.0 in
    let sizes = both_true (nat_lt 0 (length text)) (nat_le (length text) 9) inner.0 in
    record {
      digits = all_digits text inner.1;
      some = grind (arith, nat_tests);
      few = grind (arith, nat_tests);
      no_leading_zero = no_zero (slice_index text 0) first.1;
    }

ascii_digits : (text : List ℕ) → AllDigits 10 text → list_all is_ascii_digit text ≡ true
ascii_digits [] h = refl
ascii_digits (c ∷ cs) h =
    let range = digit_from_value c h.0 in
    let here : is_ascii_digit c ≡ true = grind (arith, common_steps, nat_tests, range) in
    rw here (ascii_digits cs h.1)

is_numeral-of : (text : List ℕ) → AllDigits 10 text → 0 < length text → length text ≤ 9 → (get_or text 0 0 ≡ 48 → ⊥) → is_numeral text ≡ true
is_numeral-of text digits some few no_leading_zero =
    let a : nat_lt 0 (length text) ≡ true = grind (arith, nat_tests) in
    let b : nat_le (length text) 9 ≡ true = grind (arith, nat_tests) in
    let c : (slice_index text 0 == 48) ≡ false = grind (arith, nat_tests, no_leading_zero) in
    rw (a, b, ascii_digits text digits, c) refl

value_of_numeral : (text : List ℕ) → IsNumeral text → (decimal (digits_value 10 text) ≡ text) × (digits_value 10 text < 10 ^ 9)
value_of_numeral text is =
    let by_length : digits_value 10 text < 10 ^ length text = digits_value-lt 10 text is.digits in
    let within : 10 ^ length text ≤ 10 ^ 9 = pow-le-pow_right (lit< tt) is.few in (
      decimal-digits_value digits_model text is.digits is.some (λ e. absurd (is.no_leading_zero e)) (omega arith),
      omega arith,
    )

pub number_said-is : (n : ℕ) (text : List ℕ) → number_said text ≡ Some n → IsNumber n × (text ≡ decimal n)
unfolding number_said
number_said-is n text e = by_test (is_numeral text) refl e where
  by_test : (b : Bool) → is_numeral text ≡ b → (if b then Some (digits_value 10 text) else None) ≡ Some n → IsNumber n × (text ≡ decimal n)
  by_test false test same = absurd cc
  by_test true test same =
      let is = numeral text test in
      let value : digits_value 10 text ≡ n = cc in
      let written = value_of_numeral text is in
      let text_is : text ≡ decimal n = sym written.0 ∙ ap decimal value in
      ((not_zero is n text_is, omega (arith, written.1, value)), text_is) where
        zero_first : (n : ℕ) → text ≡ decimal n → n ≡ 0 → get_or text 0 0 ≡ 48
        zero_first n text_is zero_is = ap (λ (l : List ℕ). get_or l 0 0) (text_is ∙ ap decimal zero_is ∙ decimal_digit 0 (lit< tt))

        not_zero : IsNumeral text → (n : ℕ) → text ≡ decimal n → 1 ≤ n
        not_zero is zero text_is = absurd (is.no_leading_zero (zero_first 0 text_is refl))
        not_zero is (suc n) text_is = omega arith

pub number_said-some : (n : ℕ) (text : List ℕ) → IsNumber n → text ≡ decimal n → number_said text ≡ Some n
unfolding number_said
number_said-some n text range e = subst (λ (t : List ℕ). (if is_numeral t then Some (digits_value 10 t) else None) ≡ Some n) (sym e) of_decimal where
  small : n < 2 ^ 64
  small = omega (arith, range.1)

  is : is_numeral (decimal n) ≡ true
  is =
      let numeral_of = decimal_is_IsNumeral n small in
      is_numeral-of (decimal n) numeral_of.0.1 numeral_of.0.0 (length-decimal-le 9 n (lit< tt) (omega (arith, range.1)) small)
      (λ first. omega (arith, first, first_decimal n range.0 small))

  of_decimal : (if is_numeral (decimal n) then Some (digits_value 10 (decimal n)) else None) ≡ Some n
  of_decimal = rw is (ap Some (decimal_is_IsNumeral n small).1)

-- an option that has no possible value is `None`
pub none_said : {A : Type 0} (o : Option A) → ((x : A) → o ≡ Some x → ⊥) → o ≡ None
none_said None none = refl
none_said (Some x) none = absurd (none x refl)

pub number_said-none : (text : List ℕ) → ((n : ℕ) → IsNumber n → text ≡ decimal n → ⊥) → number_said text ≡ None
number_said-none text none = none_said (number_said text) (λ n e. let is = number_said-is n text e in none n is.0 is.1)

-- no number has a leading zero
pub number_said-leading_zero : (rest : List ℕ) → number_said (48 ∷ rest) ≡ None
number_said-leading_zero rest = number_said-none (48 ∷ rest) (λ n range e. (let first = first_decimal n range.0 (omega (arith, range.1)) in
    let here : get_or (decimal n) 0 0 ≡ 48 = sym (ap (λ (l : List ℕ). get_or l 0 0) e) in omega (arith, first, here)))

-- the number that was read is the one whose text it is
pub number_said-of : (r : Option ℕ) (text : List ℕ) → IfSome r (λ n. IsNumber n × (text ≡ decimal n)) → IfNone r ((n : ℕ) → IsNumber n → text ≡ decimal n → ⊥)
    → r ≡ number_said text
number_said-of None text some none = sym (number_said-none text none)
number_said-of (Some n) text some none = sym (number_said-some n text some.0 some.1)

-- ---- days

-- the text is that of the day, which a request may name
pub day_tested : (text : List ℕ) (day : ℕ) → is_text_of_day text day ≡ true → IsRequestDay day × (text ≡ day_text day)
day_tested text day h =
    let first = both_true (nat_le first_day day && nat_le day last_request_day) (bytes_eq text (day_text day)) h in
    let range = both_true (nat_le first_day day) (nat_le day last_request_day) first.0 in
    ((grind (arith, nat_tests, range.0), grind (arith, nat_tests, range.1)), (bytes_eq-Decides text (day_text day)).0 first.1)

is_text_of_day-of : (text : List ℕ) (day : ℕ) → IsRequestDay day → text ≡ day_text day → is_text_of_day text day ≡ true
is_text_of_day-of text day stamp e =
    let low : nat_le first_day day ≡ true = grind (arith, nat_tests, stamp.0) in
    let high : nat_le day last_request_day ≡ true = grind (arith, nat_tests, stamp.1) in
    rw (low, high, (bytes_eq-Decides text (day_text day)).1 e) refl

digit_said : (n : ℕ) → digit_value (digit n) ≡ n % 10
digit_said n = omega (arith, digit_value_digit (digit n) (omega arith, omega arith))

-- two digits, and four, are the decimal text of their number
two_said : (n a b : ℕ) → n < 100 → a ≡ n / 10 % 10 → b ≡ n % 10 → (0 * 10 + a) * 10 + b ≡ n
two_said n a b small e f = omega arith

four_said : (n a b c d : ℕ) → n < 10000 → a ≡ n / 1000 % 10 → b ≡ n / 100 % 10 → c ≡ n / 10 % 10 → d ≡ n % 10 → (((0 * 10 + a) * 10 + b) * 10 + c) * 10 + d ≡ n
four_said n a b c d small e f g h = omega arith

-- the digits in the text of a day determine the day
civil_said-of : (c : Civil) → IsWritable c → civil_said (civil_text c) ≡ c
civil_said-of c w =
    let year : digits_value 10 (take 4 (civil_text c)) ≡ c.year =
    four_said c.year _ _ _ _ w.0 (digit_said (c.year / 1000)) (digit_said (c.year / 100)) (digit_said (c.year / 10)) (digit_said c.year) in
    let month : digits_value 10 (take 2 (drop 5 (civil_text c))) ≡ c.month =
    two_said c.month _ _ w.1 (digit_said (c.month / 10)) (digit_said c.month) in
    let day : digits_value 10 (take 2 (drop 8 (civil_text c))) ≡ c.day =
    two_said c.day _ _ w.2 (digit_said (c.day / 10)) (digit_said c.day) in
    λ i. record { year = year i; month = month i; day = day i }

pub day_said-some : (day : ℕ) (text : List ℕ) → IsRequestDay day → text ≡ day_text day → day_said text ≡ Some day
unfolding day_said
day_said-some day text stamp e = rw number (rw (is_text_of_day-of text day stamp e) refl) where
  number : day_number (civil_said text) ≡ day
  number = ap (λ (t : List ℕ). day_number (civil_said t)) e
      ∙ ap day_number (civil_said-of (civil_of day) (civil_of-request day stamp).1) ∙ day_number-of day (stamp.0, omega (arith, stamp.1))

pub day_said-is : (day : ℕ) (text : List ℕ) → day_said text ≡ Some day → IsRequestDay day × (text ≡ day_text day)
unfolding day_said
day_said-is day text e = by_test (is_text_of_day text (day_number (civil_said text))) refl e where
  by_test : (b : Bool) → is_text_of_day text (day_number (civil_said text)) ≡ b
      → (if b then Some (day_number (civil_said text)) else None) ≡ Some day → IsRequestDay day × (text ≡ day_text day)
  by_test false test same = absurd cc
  by_test true test same =
      let number : day_number (civil_said text) ≡ day = cc in
      day_tested text day (ap (is_text_of_day text) (sym number) ∙ test)

pub day_said-none : (text : List ℕ) → ((m : ℕ) → IsRequestDay m → text ≡ day_text m → ⊥) → day_said text ≡ None
day_said-none text none = none_said (day_said text) (λ day e. let is = day_said-is day text e in none day is.0 is.1)
