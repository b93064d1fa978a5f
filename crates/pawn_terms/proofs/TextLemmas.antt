-- The text of a day, and the day of a text.
use Rattle.jiff_core.proofs.CalendarLemmas.{days_in_month_bounds}
use Rattle.jiff_core.proofs.SignedLemmas.{signed_arith}
use Rattle.jiff_core.specs.Date.{epoch_day}
use Rattle.jiff_core.specs.declared.civil.date.Date.{Date}
use Rattle.pawn_terms.proofs.CalendarLemmas.{civil_after_is, civil_of-date, civil_of-year, same_civil}
use Rattle.pawn_terms.specs.Calendar.{Civil, civil_of, civil_text, day_text, digit, first_day, IsDayNumber, IsRequestDay}
use Rattle.pawn_terms.specs.Calendar.{IsRequestCivil, IsWritable}
use Rattle.pawn_terms.specs.declared.day.BadDay.{BadDay}
use Rattle.std.proofs.Common.{◌≡◌, ℕ, ◌+◌, ◌-◌, ◌*◌, ◌/◌, ◌<◌, List, [], ◌∷◌, length, get_or, Result, Ok, Err, IsOk}
use Rattle.std.proofs.Common.{IfOk, refl, sym, ap, subst, ◌∙◌, arith, pos, ◌≤ℤ◌, unsigned_abs}
use Rattle.std.proofs.lemmas.Bool.{false≢true}

-- the text of a date of the library is that of its day number
pub text_of-date : (d : Date) (n : ℕ) → IsDayNumber n → epoch_day d ≡ pos n
    → (pos 0 ≤ℤ d.year) × (civil_text (record { year = unsigned_abs d.year; month = d.month; day = d.day }) ≡ day_text n)
text_of-date d n h e =
    let s = civil_of-date d n h e in
    (omega (arith, signed_arith, s.0), ap civil_text (sym (same_civil (civil_of n) _ _ _ (sym (ap unsigned_abs s.0)) (sym s.1) (sym s.2))))

-- four digits are the year's
digits_are : (y c r : ℕ) → c < 100 → r < 100 → y ≡ c * 100 + r
    → (digit (y / 1000) ≡ digit (c / 10)) × (digit (y / 100) ≡ digit c) × (digit (y / 10) ≡ digit (r / 10)) × (digit y ≡ digit r)
digits_are y c r hc hr e = (omega arith, omega arith, omega arith, omega arith)

-- ten characters are those at their places
ten_places : (t : List ℕ) → length t ≡ 10 → t ≡ get_or t 0 0 ∷ get_or t 1 0 ∷ get_or t 2 0 ∷ get_or t 3 0 ∷ get_or t 4 0 ∷ get_or t 5 0 ∷ get_or t 6 0
    ∷ get_or t 7 0 ∷ get_or t 8 0 ∷ get_or t 9 0 ∷ []
ten_places [] l = absurd (omega arith)
ten_places (a ∷ []) l = absurd (omega arith)
ten_places (a ∷ b ∷ []) l = absurd (omega arith)
ten_places (a ∷ b ∷ c ∷ []) l = absurd (omega arith)
ten_places (a ∷ b ∷ c ∷ d ∷ []) l = absurd (omega arith)
ten_places (a ∷ b ∷ c ∷ d ∷ e ∷ []) l = absurd (omega arith)
ten_places (a ∷ b ∷ c ∷ d ∷ e ∷ f ∷ []) l = absurd (omega arith)
ten_places (a ∷ b ∷ c ∷ d ∷ e ∷ f ∷ g ∷ []) l = absurd (omega arith)
ten_places (a ∷ b ∷ c ∷ d ∷ e ∷ f ∷ g ∷ h ∷ []) l = absurd (omega arith)
ten_places (a ∷ b ∷ c ∷ d ∷ e ∷ f ∷ g ∷ h ∷ i ∷ []) l = absurd (omega arith)
ten_places (a ∷ b ∷ c ∷ d ∷ e ∷ f ∷ g ∷ h ∷ i ∷ j ∷ []) l = refl
ten_places (a ∷ b ∷ c ∷ d ∷ e ∷ f ∷ g ∷ h ∷ i ∷ j ∷ k ∷ xs) l = absurd (omega arith)

-- two digits at two places of a text
pub record AreDigits (t : List ℕ) (i j n : ℕ) : Type 0 where
  pub small : n < 100
  pub tens : get_or t i 0 ≡ digit (n / 10)
  pub ones : get_or t j 0 ≡ digit n

-- a text with a day's digits and hyphens at their places
pub civil_text-read : (t : List ℕ) (c y m d : ℕ) → length t ≡ 10 → get_or t 4 0 ≡ 45 → get_or t 7 0 ≡ 45
    → AreDigits t 0 1 c → AreDigits t 2 3 y → AreDigits t 5 6 m → AreDigits t 8 9 d → t ≡ civil_text (record { year = c * 100 + y; month = m; day = d })
civil_text-read t c y m d l first second hc hy hm hd =
    let e = digits_are (c * 100 + y) c y hc.small hy.small refl in
    let p = ten_places t l in
    let e0 : get_or t 0 0 ≡ digit ((c * 100 + y) / 1000) = hc.tens ∙ sym e.0 in
    let e1 : get_or t 1 0 ≡ digit ((c * 100 + y) / 100) = hc.ones ∙ sym e.1 in
    let e2 : get_or t 2 0 ≡ digit ((c * 100 + y) / 10) = hy.tens ∙ sym e.2 in
    let e3 : get_or t 3 0 ≡ digit (c * 100 + y) = hy.ones ∙ sym e.3 in
    p ∙ rw (e0, e1, e2, e3, first, hm.tens, hm.ones, second, hd.tens, hd.ones) refl

-- no two days have the same text
same_year : (a b : ℕ) → a < 10000 → b < 10000 → digit (a / 1000) ≡ digit (b / 1000) → digit (a / 100) ≡ digit (b / 100) → digit (a / 10) ≡ digit (b / 10)
    → digit a ≡ digit b → a ≡ b
same_year a b ha hb e f g h = omega arith

same_pair : (a b : ℕ) → a < 100 → b < 100 → digit (a / 10) ≡ digit (b / 10) → digit a ≡ digit b → a ≡ b
same_pair a b ha hb e f = omega arith

place : (t u : List ℕ) (k : ℕ) → t ≡ u → get_or t k 0 ≡ get_or u k 0
place t u k e = ap (λ (l : List ℕ). get_or l k 0) e

pub civil_text-injective : (a b : Civil) → IsWritable a → IsWritable b → civil_text a ≡ civil_text b → a ≡ b
civil_text-injective a b ha hb e =
    let at = place (civil_text a) (civil_text b) in
    same_civil a _ _ _ (same_year a.year b.year ha.0 hb.0 (at 0 e) (at 1 e) (at 2 e) (at 3 e)) (same_pair a.month b.month ha.1 hb.1 (at 5 e) (at 6 e))
    (same_pair a.day b.day ha.2 hb.2 (at 8 e) (at 9 e))

-- the day of a number that a request may name
pub civil_of-request : (n : ℕ) → IsRequestDay n → IsRequestCivil (civil_of n) × IsWritable (civil_of n)
civil_of-request n h =
    let p = (civil_after_is (n - first_day)).0 in
    let y = civil_of-year n (h.0, omega arith) in
    let high = y.1 h.1 in
    let m = days_in_month_bounds (pos (civil_of n).year) (civil_of n).month in
    (((y.0, high), p.month_in, p.day_in), (omega (arith, high), omega (arith, p.month_in), omega (arith, p.day_in, m)))

-- the number of a day that was read
pub day_text-read : (r : Result ℕ BadDay) (t : List ℕ) (c : Civil) → t ≡ civil_text c → IfOk r (λ d. civil_of d ≡ c) → IfOk r IsRequestDay → IsOk r
    → (n : ℕ) × IsRequestDay n × (t ≡ day_text n)
day_text-read (Ok n) t c is same day h = (n, day, is ∙ ap civil_text (sym same))
day_text-read (Err e) t c is same day h = absurd (false≢true h)

-- the text of a day determines its year, month and day
pub civil_of-read : (n : ℕ) (t : List ℕ) (c : Civil) → IsRequestDay n → t ≡ day_text n → t ≡ civil_text c → IsWritable c → IsRequestCivil c
civil_of-read n t c day text is small =
    let p = civil_of-request n day in
    let same : civil_of n ≡ c = civil_text-injective (civil_of n) c p.1 small (sym text ∙ is) in
    subst IsRequestCivil same p.0
