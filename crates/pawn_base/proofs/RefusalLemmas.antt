-- What an answer after a list of refusals proves.
use Rattle.pawn_base.specs.Refusals.{first_of, NoneApplies}
use Rattle.std.proofs.Common.{◌≡◌, Bool, true, false, if◌then◌else◌, List, [], ◌∷◌, Result, Ok, Err, IsOk, refl}
use Rattle.std.proofs.lemmas.Bool.{false≢true}

-- an answer after the condition of one row was false
pub past_row-ok : {V E : Type 0} (b : Bool) (why : E) (answer : Result V E) (v : V) → (if b then Err why else answer) ≡ Ok v → (b ≡ false) × (answer ≡ Ok v)
past_row-ok true why answer v h = cc
past_row-ok false why answer v h = (refl, h)

past_row-is_ok : {V E : Type 0} (b : Bool) (why : E) (answer : Result V E) → IsOk (if b then Err why else answer) → (b ≡ false) × IsOk answer
past_row-is_ok true why answer h = absurd (false≢true h)
past_row-is_ok false why answer h = (refl, h)

-- if the answer is not a refusal, the condition of every row was false
pub first_of-ok : {V E : Type 0} (rows : List (Bool × E)) (answer : Result V E) (v : V) → first_of rows answer ≡ Ok v → NoneApplies rows × (answer ≡ Ok v)
first_of-ok [] answer v h = (tt, h)
first_of-ok (row ∷ rows) answer v h =
    let a = past_row-ok row.0 row.1 (first_of rows answer) v h in
    let r = first_of-ok rows answer v a.1 in
    ((a.0, r.0), r.1)

-- the same for a value that is not named
pub first_of-is_ok : {V E : Type 0} (rows : List (Bool × E)) (answer : Result V E) → IsOk (first_of rows answer) → NoneApplies rows × IsOk answer
first_of-is_ok [] answer h = (tt, h)
first_of-is_ok (row ∷ rows) answer h =
    let a = past_row-is_ok row.0 row.1 (first_of rows answer) h in
    let r = first_of-is_ok rows answer a.1 in
    ((a.0, r.0), r.1)

-- if the condition of every row is false, the result is the answer
pub first_of-past : {V E : Type 0} (rows : List (Bool × E)) (answer : Result V E) → NoneApplies rows → first_of rows answer ≡ answer
first_of-past [] answer h = refl
first_of-past (row ∷ rows) answer h = rw h.0 (first_of-past rows answer h.1)

pub first_of-accepts : {V E : Type 0} (rows : List (Bool × E)) (v : V) → NoneApplies rows → IsOk (first_of rows (Ok v))
first_of-accepts [] v h = refl
first_of-accepts (row ∷ rows) v h = rw h.0 (first_of-accepts rows v h.1)
