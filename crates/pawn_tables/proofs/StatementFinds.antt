-- What a statement that is asked within a transaction finds.
use Rattle.one_table.proofs.Parts.{plain_rests}
use Rattle.pawn_tables.specs.Common.{Index, Tables, understood, Row, Schema, HasCleanDisk, Shown, State, Host}
use Rattle.pawn_tables.specs.Common.{KeepError, Database, NoRecord, IsLent, Rests}
use Rattle.pawn_tables.specs.Finding.{Finds, FindsIn, FindsOf, IsRead}
use Rattle.pawn_tables.specs.Ours.{HasOurTables, with_indexes}
use Rattle.pawn_tables.specs.StandsFor.{ListDebts, StandsFor}
use Rattle.sqlite.proofs.Callers.{IsPlain}
use Rattle.std.proofs.Common.{◌≡◌, List, ℕ, true, Result, Ok, Err, refl, sym, subst}
use Rattle.pawn_book.specs.declared.fault.KeepError.TheVariants as Keeper

-- what was read has what holds of what stands, and what can't be kept is of a host that is not sound
pub found_as : {A : Type 0} (r : Result A KeepError) (x : A) (P : A → Type 0) (Q U : Type 0) → IsRead r x Q → P x → ((Q → ⊥) → U) → Finds r P U
found_as (Ok y) x P Q U read fact bad = subst P (sym read) fact
found_as (Err Keeper.Memory) x P Q U read fact bad = tt
found_as (Err (Keeper.Store NoRecord)) x P Q U read fact bad = bad read
found_as (Err (Keeper.Store Database)) x P Q U read fact bad = tt

-- what was read is what stands
pub found_is : {A : Type 0} (r : Result A KeepError) (x : A) (Q U : Type 0) → IsRead r x Q → ((Q → ⊥) → U) → Finds r (λ y. y ≡ x) U
found_is r x Q U read bad = found_as r x (λ y. y ≡ x) Q U read refl bad

-- an error that is not about rows implies nothing of them, if it is passed on
untold : {A B : Type 0} (r : Result A KeepError) (e : KeepError) (s : Result B KeepError) (P : B → Type 0) (U : Type 0) → r ≡ Err e → s ≡ Err e
    → (r ≡ Err (Keeper.Store NoRecord) → ⊥) → Finds s P U
untold r e s P U is same not = subst (λ x. Finds x P U) (sym same) (go e is) where
  go : (x : KeepError) → r ≡ Err x → Finds (Err x) P U
  go Keeper.Memory is = tt
  go (Keeper.Store NoRecord) is = absurd (not is)
  go (Keeper.Store Database) is = tt

with_rests : {A : Type 0} (r : Result A KeepError) (P : A → Type 0) (R U : Type 0) → Finds r P U → R → Finds r (λ x. P x × R) U
with_rests (Ok x) P R U f rests = (f, rests)
with_rests (Err Keeper.Memory) P R U f rests = tt
with_rests (Err (Keeper.Store NoRecord)) P R U f rests = f
with_rests (Err (Keeper.Store Database)) P R U f rests = tt

-- of the program's tables, which tell of a host: what the rows of a query tell, while the tables rest
found_of : {A : Type 0} (Relates : Tables → Host → Type 0) → ((db : Tables) (h : Host) → Relates db h → HasOurTables db.schema)
    → (IsUnsound : Host → Type 0) (old new : State) (params : Row) (rows : List Row) (r : Result A KeepError) (P : Host → A → Type 0) (text : List ℕ)
    → ((more : List Index) → IsPlain (understood (with_indexes more) text)) → IsLent old new true → (HasCleanDisk new → Shown text params old new rows)
    → ((h : Host) → Relates old.now h → Shown text params old new rows → Finds r (P h) (IsUnsound h)) → FindsOf Relates IsUnsound old new r P
found_of Relates schema IsUnsound old new params rows r P text plain lent shows find clean within h stood = let st = stood (lent.opened clean within refl) in
    let shown = shows clean in let ours = schema old.now h st in
    let is_plain = subst (λ (s : Schema). IsPlain (understood s text)) (sym ours.is) (plain ours.more) in
    with_rests r (P h) (Rests old new) (IsUnsound h) (find h st shown) (plain_rests text params old new rows within is_plain shown)

-- of tables that stand for a host
pub found : {A : Type 0} (IsUnsound : Host → Type 0) (old new : State) (params : Row) (rows : List Row) (r : Result A KeepError) (P : Host → A → Type 0)
    (text : List ℕ) → ((more : List Index) → IsPlain (understood (with_indexes more) text)) → IsLent old new true → (HasCleanDisk new → Shown text params old
    new rows) → ((h : Host) → StandsFor old.now h → Shown text params old new rows → Finds r (P h) (IsUnsound h)) → FindsIn IsUnsound old new r P
found = found_of StandsFor (λ db h st. st.schema)

-- of tables that list the debts of a host
pub found_debts : {A : Type 0} (IsUnsound : Host → Type 0) (old new : State) (params : Row) (rows : List Row) (r : Result A KeepError) (P : Host → A → Type 0)
    (text : List ℕ) → ((more : List Index) → IsPlain (understood (with_indexes more) text)) → IsLent old new true → (HasCleanDisk new → Shown text params old
    new rows) → ((h : Host) → ListDebts old.now h → Shown text params old new rows → Finds r (P h) (IsUnsound h)) → FindsOf ListDebts IsUnsound old new r P
found_debts = found_of ListDebts (λ db h st. st.schema)

-- an error that is not about rows implies nothing of them, if it is passed on
pub unread : {A B : Type 0} (IsUnsound : Host → Type 0) (old new : State) (r : Result A KeepError) (e : KeepError) (s : Result B KeepError)
    (P : Host → B → Type 0) → r ≡ Err e → s ≡ Err e → (r ≡ Err (Keeper.Store NoRecord) → ⊥) → FindsIn IsUnsound old new s P
unread IsUnsound old new r e s P is same not clean within h stood = untold r e s (λ x. P h x × Rests old new) (IsUnsound h) is same not

pub unread_debts : {A B : Type 0} (IsUnsound : Host → Type 0) (old new : State) (r : Result A KeepError) (e : KeepError) (s : Result B KeepError)
    (P : Host → B → Type 0) → r ≡ Err e → s ≡ Err e → (r ≡ Err (Keeper.Store NoRecord) → ⊥) → FindsOf ListDebts IsUnsound old new s P
unread_debts IsUnsound old new r e s P is same not clean within h stood = untold r e s (λ x. P h x × Rests old new) (IsUnsound h) is same not
