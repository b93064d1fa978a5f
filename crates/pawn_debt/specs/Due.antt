-- The sum owed on a day, computed day by day.
use Rattle.pawn_base.specs.Lists.{DoNotFall, last_by}
use Rattle.pawn_debt.specs.Limits.{penny}
use Rattle.pawn_debt.specs.declared.entry.Entry.{Entry}
use Rattle.pawn_debt.specs.declared.entry.Kind.{Kind}
use Rattle.pawn_debt.specs.declared.entry.Kind.TheVariants.{Fixed, Running}
use Rattle.pawn_debt.specs.declared.entry.Sort.{Sort}
use Rattle.pawn_debt.specs.declared.entry.Sort.TheVariants.{Draw, Repay}
use Rattle.pawn_terms.specs.declared.terms.Rates.{Rates}
use Rattle.std.specs.Prelude.{ℕ, zero, suc, ◌+◌, ◌-◌, ◌*◌, ◌/◌, ◌==◌, nat_le, min, if◌then◌else◌, List, [], ◌∷◌, filter}

-- the sum owed: principal in pence, charges in millionths of a penny
pub record Due : Type 0 where
  pub principal : ℕ
  pub millionths : ℕ

-- a debt: its kind and terms, the day on which it was taken, the end of its period, and its entries in order
pub record DebtValue : Type 0 where
  pub kind : Kind
  pub terms : Rates
  pub taken : ℕ
  pub ends : ℕ
  pub entries : List Entry

-- the principal on the day taken, before its entries
abbrev pub first_principal : Kind → ℕ
first_principal (Fixed sum) = sum
first_principal (Running limit) = 0

-- the fixed sum, or the limit of a running account
abbrev pub credit_of : Kind → ℕ
credit_of (Fixed sum) = sum
credit_of (Running limit) = limit

-- the sum owed after an entry: a drawing adds to the principal, and a repayment pays whole pence of charges first and
-- then principal
abbrev pub after_sort : Sort → ℕ → Due → Due
after_sort Draw pence due = record { principal = due.principal + pence; millionths = due.millionths }
after_sort Repay pence due =
    let paid = min pence (due.millionths / penny) in
    record { principal = due.principal - (pence - paid); millionths = due.millionths - paid * penny }

-- the sum owed after an entry
abbrev pub after_entry : Due → Entry → Due
after_entry due e = after_sort e.sort e.pence due

-- the sum owed after a list of entries
abbrev pub after_entries : Due → List Entry → Due
after_entries due [] = due
after_entries due (e ∷ es) = after_entries (after_entry due e) es

-- the charge for safe keeping on the day x
abbrev pub keep_on : Rates → ℕ → ℕ → ℕ
keep_on terms ends x = if nat_le x ends then terms.keep_before else terms.keep_after

-- the sum owed on the day x before its entries, from the sum owed on the day before: the charges increase by interest
-- on the principal and by safe keeping
abbrev pub after_charges : Rates → ℕ → ℕ → Due → Due
after_charges terms ends x due =
    record { principal = due.principal; millionths = due.millionths + due.principal * terms.rate + keep_on terms ends x }

-- the entries of a day, in order
abbrev pub entries_on : List Entry → ℕ → List Entry
entries_on entries x = filter (λ e. e.day == x) entries

-- the sum owed n days after the day taken, after that day's entries
unfoldable pub due_after : DebtValue → ℕ → Due
due_after p zero =
    after_entries (record { principal = first_principal p.kind; millionths = 0 }) (entries_on p.entries p.taken)
due_after p (suc n) =
    after_entries (after_charges p.terms p.ends (p.taken + suc n) (due_after p n)) (entries_on p.entries (p.taken + suc n))

-- the sum owed on the day x, after its entries
abbrev pub due : DebtValue → ℕ → Due
due p x = due_after p (x - p.taken)

-- the sum owed n days after the day x, if no entries come in between
unfoldable pub after_days : Rates → ℕ → ℕ → ℕ → Due → Due
after_days terms ends x zero owed = owed
after_days terms ends x (suc n) owed = after_charges terms ends (x + suc n) (after_days terms ends x n owed)

-- the day of the last entry, or `day` if there is no entry
abbrev pub last_of : ℕ → List Entry → ℕ
last_of day entries = last_by (λ e. e.day) day entries

-- the entries are in the order of their days, and none is before `day`
abbrev pub AreOrdered : ℕ → List Entry → Type 0
AreOrdered day entries = DoNotFall (λ e. e.day) day entries
