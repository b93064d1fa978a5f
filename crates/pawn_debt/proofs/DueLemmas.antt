-- How charges grow over days without entries, by one multiplication.
use Rattle.pawn_debt.specs.Due.{Due, after_days, keep_on}
use Rattle.pawn_terms.specs.declared.terms.Rates.{Rates}
use Rattle.std.proofs.Common.{◌≡◌, ℕ, zero, suc, ◌+◌, ◌-◌, ◌*◌, ◌<◌, ◌≤◌, inl, inr, nat_le, true, false, min, refl, sym}
use Rattle.std.proofs.Common.{◌∙◌, arith}
use Rattle.std.proofs.lemmas.Bool.{cases_lt}
use Rattle.std.proofs.lemmas.Bool.Decides.{nat_tests}

-- of the n days after x, the number of those that are not after the end
abbrev pub days_inside : ℕ → ℕ → ℕ → ℕ
days_inside ends x n = min (x + n) ends - x

-- a sum owed is determined by its two numbers
pub due_eq : (a b : Due) → a.principal ≡ b.principal → a.millionths ≡ b.millionths → a ≡ b
due_eq a b e f = rw (e, f) refl

-- the charge for safe keeping on a day in the period, and on a day after it
pub keep_on-inside : (t : Rates) (ends x : ℕ) → x ≤ ends → keep_on t ends x ≡ t.keep_before
keep_on-inside t ends x h = let e : nat_le x ends ≡ true = grind (arith, nat_tests) in rw e refl

pub keep_on-past : (t : Rates) (ends x : ℕ) → ends < x → keep_on t ends x ≡ t.keep_after
keep_on-past t ends x h = let e : nat_le x ends ≡ false = grind (arith, nat_tests) in rw e refl

-- the principal stays
pub after_days-principal : (t : Rates) (ends x n : ℕ) (o : Due) → (after_days t ends x n o).principal ≡ o.principal
unfolding after_days
after_days-principal t ends x zero o = refl
after_days-principal t ends x (suc n) o = after_days-principal t ends x n o

-- charges up to the end of the period
after_days-inside : (t : Rates) (ends x n : ℕ) (o : Due) → x + n ≤ ends
    → (after_days t ends x n o).millionths ≡ o.millionths + n * (o.principal * t.rate) + n * t.keep_before
unfolding after_days
after_days-inside t ends x zero o h = omega arith
after_days-inside t ends x (suc n) o h =
    let ih = after_days-inside t ends x n o (omega arith) in
    let k = keep_on-inside t ends (x + suc n) h in
    let p = after_days-principal t ends x n o in
    rw (ih, k, p) (omega arith)

-- charges over days that continue after the end
after_days-past : (t : Rates) (ends x n : ℕ) (o : Due) → ends ≤ x + n
    → (after_days t ends x n o).millionths ≡ o.millionths + n * (o.principal * t.rate) + (ends - x) * t.keep_before + (n - (ends - x)) * t.keep_after
unfolding after_days
after_days-past t ends x zero o h = let z : ends - x ≡ 0 = omega arith in rw z (omega arith)
after_days-past t ends x (suc n) o h =
    let p = after_days-principal t ends x n o in
    elim (cases_lt ends (x + suc n)) [
      | inl past ↦
          let ih = after_days-past t ends x n o (omega arith) in
          let k = keep_on-past t ends (x + suc n) past in
          let m : suc n - (ends - x) ≡ suc (n - (ends - x)) = omega arith in
          rw (ih, k, p, m) (omega arith)
      | inr last ↦
          let ih = after_days-inside t ends x n o (omega arith) in
          let k = keep_on-inside t ends (x + suc n) last in
          let e : ends - x ≡ suc n = omega arith in
          let m : suc n - suc n ≡ 0 = omega arith in
          rw (ih, k, p, e, m) (omega arith)
    ]

-- the charges that n days without entries add, in one multiplication
pub after_days-millionths : (t : Rates) (ends x n : ℕ) (o : Due) → (after_days t ends x n o).millionths
    ≡ o.millionths + n * (o.principal * t.rate) + days_inside ends x n * t.keep_before + (n - days_inside ends x n) * t.keep_after
after_days-millionths t ends x n o =
    elim (cases_lt ends (x + n)) [
      | inl past ↦ let e : days_inside ends x n ≡ ends - x = omega arith in rw e (after_days-past t ends x n o (omega arith))
      | inr inside ↦
          let e : days_inside ends x n ≡ n = omega arith in
          let m : n - n ≡ 0 = omega arith in
          rw (e, m) (omega (arith, after_days-inside t ends x n o inside))
    ]

-- the same for the two numbers that are stored
pub after_days-is : (t : Rates) (ends x n : ℕ) (o : Due) (charges : ℕ)
    → charges ≡ o.millionths + n * (o.principal * t.rate) + days_inside ends x n * t.keep_before + (n - days_inside ends x n) * t.keep_after
    → record { principal = o.principal; millionths = charges } ≡ after_days t ends x n o
after_days-is t ends x n o charges e = due_eq _ _ (sym (after_days-principal t ends x n o)) (e ∙ sym (after_days-millionths t ends x n o))
