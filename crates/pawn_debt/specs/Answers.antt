-- The answers of the calls on a debt: the first refusal that applies, or the new debt.
use Rattle.pawn_base.specs.Refusals.{first_of, IsSaid, IsWant}
use Rattle.pawn_debt.specs.Due.{DebtValue, due, last_of, credit_of}
use Rattle.pawn_debt.specs.Limits.{most_pence, most_entries}
use Rattle.pawn_debt.specs.Owing.{total_of}
use Rattle.pawn_debt.specs.declared.entry.Kind.{Kind}
use Rattle.pawn_debt.specs.declared.entry.Kind.TheVariants.{Fixed, Running}
use Rattle.pawn_debt.specs.declared.entry.Sort.{Sort}
use Rattle.pawn_debt.specs.declared.entry.Sort.TheVariants.{Draw, Repay}
use Rattle.pawn_debt.specs.declared.fault.DebtFault.{DebtFault}
use Rattle.pawn_debt.specs.declared.fault.DebtFault.TheVariants.{BadAmount, FixedSum, OverLimit, OverOwing, EarlierDay}
use Rattle.pawn_debt.specs.declared.fault.DebtFault.TheVariants.{EntriesFull}
use Rattle.pawn_terms.specs.declared.terms.Rates.{Rates}
use Rattle.std.specs.Prelude.{◌≡◌, ℕ, ◌+◌, nat_lt, nat_le, Bool, true, false, ◌||◌, ◌==◌, List, [], ◌∷◌, ◌++◌, length}
use Rattle.std.specs.Prelude.{Result, Ok, Err}

-- a sum that is refused: 0, or more than a million pounds
abbrev pub is_bad_amount : ℕ → Bool
is_bad_amount pence = (pence == 0) || nat_lt most_pence pence

-- the credit is a fixed sum
abbrev pub is_fixed : Kind → Bool
is_fixed (Fixed sum) = true
is_fixed (Running limit) = false

-- the debt with one more entry
abbrev pub with_entry : DebtValue → ℕ → Sort → ℕ → DebtValue
with_entry p day sort pence =
    record p { entries = p.entries ++ record { seq = length p.entries + 1; day = day; sort = sort; pence = pence } ∷ [] }

-- a new debt, which has no entries
abbrev pub start_answer : Kind → Rates → ℕ → ℕ → Result DebtValue DebtFault
start_answer kind terms taken ends =
    first_of
    ((is_bad_amount (credit_of kind), BadAmount) ∷ [])
    (Ok (record { kind = kind; terms = terms; taken = taken; ends = ends; entries = [] }))

-- the refusals of a drawing, in order; the limit applies to the principal only
abbrev pub draw_refusals : DebtValue → ℕ → ℕ → List (Bool × DebtFault)
draw_refusals p day pence =
    (nat_lt day (last_of p.taken p.entries), EarlierDay)
    ∷ (is_fixed p.kind, FixedSum)
    ∷ (is_bad_amount pence, BadAmount)
    ∷ (nat_le most_entries (length p.entries), EntriesFull)
    ∷ (nat_lt (credit_of p.kind) ((due p day).principal + pence), OverLimit)
    ∷ []

-- the debt after a drawing, or its first refusal
abbrev pub draw_answer : DebtValue → ℕ → ℕ → Result DebtValue DebtFault
draw_answer p day pence = first_of (draw_refusals p day pence) (Ok (with_entry p day Draw pence))

-- the refusals of a repayment, in order
abbrev pub repay_refusals : DebtValue → ℕ → ℕ → List (Bool × DebtFault)
repay_refusals p day pence =
    (nat_lt day (last_of p.taken p.entries), EarlierDay)
    ∷ (is_bad_amount pence, BadAmount)
    ∷ (nat_le most_entries (length p.entries), EntriesFull)
    ∷ (nat_lt (total_of (due p day)) pence, OverOwing (total_of (due p day)))
    ∷ []

-- the debt after a repayment, or its first refusal
abbrev pub repay_answer : DebtValue → ℕ → ℕ → Result DebtValue DebtFault
repay_answer p day pence = first_of (repay_refusals p day pence) (Ok (with_entry p day Repay pence))

-- a call returns what the rules state, or `memory` where the rules accept; a refused call changes nothing
abbrev pub IsAnswer : {V U E : Type 0} → E → Result V E → V → Result U E → V → Type 0
IsAnswer memory answer old (Ok done) new = answer ≡ Ok new
IsAnswer memory answer old (Err fault) new = (new ≡ old) × IsSaid (IsWant memory answer) answer (Err fault)
