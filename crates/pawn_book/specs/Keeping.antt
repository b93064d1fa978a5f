-- How the calls of a keeper relate to the host that it stands for.
use Rattle.pawn_book.specs.BookStep.{BookValue, with_reference}
use Rattle.pawn_book.specs.Changes.{with_change}
use Rattle.pawn_book.specs.Common.{Issued, PledgeValue, Rates}
use Rattle.pawn_book.specs.HostStep.{Host, rows}
use Rattle.pawn_book.specs.Rows.{terms_at}
use Rattle.pawn_book.specs.Sound.{IsSound}
use Rattle.pawn_book.specs.declared.change.Change.{Change}
use Rattle.pawn_book.specs.declared.fault.KeepError.{KeepError}
use Rattle.pawn_book.specs.declared.fault.SaveError.{SaveError}
use Rattle.pawn_book.specs.declared.fault.StoreFault.TheVariants.{NoRecord}
use Rattle.pawn_book.specs.declared.refusal.Refusal.{Refusal}
use Rattle.pawn_debt.specs.declared.entry.Entry.{Entry}
use Rattle.pawn_pledge.specs.declared.brief.BriefFields.{BriefFields}
use Rattle.pawn_pledge.specs.declared.record.Extension.{Extension}
use Rattle.std.specs.FinMap.{get}
use Rattle.std.specs.Prelude.{◌≡◌, ◌⊎◌, ℕ, ◌≤◌, ◌<◌, List, [], Option, Some, None, Result, Ok, Err, option_map, IfErr}
use Rattle.std.specs.Prelude.{OnErr, OnOk}
use Rattle.pawn_book.specs.declared.refusal.Refusal.TheVariants as No
use Rattle.pawn_book.specs.declared.fault.KeepError.TheVariants as Keeper
use Rattle.pawn_book.specs.declared.fault.SaveError.TheVariants as Save

-- the predicates by which contracts describe one kind of keeper
pub record Keeping (K : Type 0) : Type 1 where
  -- the hosts that the keeper stands for (represents)
  pub stands : K → Host → Type 0
  -- its store has returned what was written
  pub honest : K → Type 0
  -- its store still answers: no fault has shut it. A keeper whose store is shut may stand for further hosts
  pub usable : K → Type 0
  -- its store never fails
  pub steady : K → Type 0
  -- the hosts that a crash now may leave
  pub leaves : K → Host → Type 0
  -- it stands for a sound host, and a crash now may leave only sound hosts
  pub whole : K → Type 0

-- what a call preserves of a keeper: one that is honest after the call was honest before it, and usable before it if it
-- is usable after it; a steady keeper stays steady, and a whole keeper stays whole if it is honest after the call
pub record GoesOn {K : Type 0} (k : Keeping K) (old new : K) : Type 0 where
  pub was_honest : k.honest new → k.honest old
  pub was_usable : k.honest new → k.usable new → k.usable old
  pub stays : k.steady old → k.steady new
  pub whole : k.honest new → k.whole old → k.whole new

-- a whole keeper stands for a sound host, and a crash now may leave only sound hosts
pub record WholeIsSound {K : Type 0} (k : Keeping K) : Type 0 where
  pub stands : (x : K) → k.whole x → (h : Host) × IsSound h × k.stands x h
  pub left : (x : K) → k.whole x → (h : Host) → k.leaves x h → IsSound h

-- a call that changes nothing: P holds of each host that the keeper stood for, and after the call the keeper stands for
-- these hosts and, while it is usable, for no others
pub record Reads {K : Type 0} (k : Keeping K) (old new : K) (P : Host → Type 0) : Type 0 where
  pub on : GoesOn k old new
  pub same : k.honest new → (h : Host) → k.stands old h → k.stands new h
  pub back : k.honest new → k.usable new → (h : Host) → k.stands new h → k.stands old h
  pub states : k.honest new → (h : Host) → k.stands old h → P h
  -- a crash can leave no host that it could not leave before
  pub crash : k.honest new → (left : Host) → k.leaves new left → k.leaves old left

-- the errors of a call: a steady keeper returns only `Memory`, and any keeper returns `NoRecord` only if the host is
-- unsound in this way
pub record Errs {K T : Type 0} (k : Keeping K) (old new : K) (IsUnsound : Host → Type 0) (result : Result T KeepError) : Type 0 where
  pub never : k.steady old → IfErr result (λ e. e ≡ Keeper.Memory)
  pub no_record : result ≡ Err (Keeper.Store NoRecord) → k.honest new → (h : Host) → k.stands old h → IsUnsound h

-- over a steady keeper the only error is `Memory`
abbrev pub IsSteady : {K T : Type 0} → Keeping K → K → Result T KeepError → Type 0
IsSteady k old result = k.steady old → IfErr result (λ e. e ≡ Keeper.Memory)

-- over a steady keeper nothing is refused as `Store`
abbrev pub IsQuiet : {K T : Type 0} → Keeping K → K → Result T Refusal → Type 0
IsQuiet k old result = k.steady old → result ≡ Err No.Store → ⊥

-- P holds of each sound host that the keeper stood for, if it is honest now
abbrev pub OfHost : {K : Type 0} → Keeping K → K → K → (Host → Type 0) → Type 0
OfHost k old new P = k.honest new → (h : Host) → IsSound h → k.stands old h → P h

-- the changed host, with its rows within the limit
abbrev pub IsFitting : Host → Change → Host → Type 0
IsFitting h change left = (left ≡ with_change h change) × (rows (with_change h change) ≤ h.limit)

-- the error is `Full` or `Memory`
abbrev pub IsSteadyError : SaveError → Type 0
IsSteadyError Save.Full = Unit {0}
IsSteadyError Save.Memory = Unit {0}
IsSteadyError (Save.Store fault) = ⊥

-- A host that a crash may leave after a save, where `before` holds of the hosts that a crash could leave before the
-- save. After a success it is the changed host. After `Full` it is one of the hosts before. After another error it is
-- one of the hosts before, or the changed host if its rows are within the limit.
abbrev pub IsLeftBy : {T : Type 0} → Host → Change → (Host → Type 0) → Result T SaveError → Host → Type 0
IsLeftBy h change before (Ok done) left = left ≡ with_change h change
IsLeftBy h change before (Err Save.Full) left = before left
IsLeftBy h change before (Err Save.Memory) left = before left ⊎ IsFitting h change left
IsLeftBy h change before (Err (Save.Store fault)) left = before left ⊎ IsFitting h change left

-- a change that is accepted is saved, with the rows within the limit; `Full` is returned only if they would be above
-- it; after an error the host is as before; a steady keeper returns only `Full` or `Memory`
pub record Saves {K T : Type 0} (k : Keeping K) (old new : K) (change : Change) (result : Result T SaveError) : Type 0 where
  pub on : GoesOn k old new
  pub ok : OnOk result (OfHost k old new (λ h. k.stands new (with_change h change) × (rows (with_change h change) ≤ h.limit)))
  pub full : result ≡ Err Save.Full → OfHost k old new (λ h. h.limit < rows (with_change h change))
  pub err : OnErr result (OfHost k old new (λ h. k.stands new h))
  pub crash : OfHost k old new (λ h. (left : Host) → k.leaves new left → IsLeftBy h change (k.leaves old) result left)
  pub never : k.steady old → IfErr result (λ e. IsSteadyError e)

-- the terms of a book; none if there is no book
abbrev pub terms_of : Option BookValue → List Rates
terms_of None = []
terms_of (Some book) = book.terms

-- the terms in a brief are those that the book has under the same version
abbrev pub HasTermsOf : Option BookValue → BriefFields → Type 0
HasTermsOf book brief = terms_at (terms_of book) brief.agreement.version ≡ Some brief.agreement.terms

-- the pledges of a book; none if there is no book
abbrev pub pledges_of : Option BookValue → List PledgeValue
pledges_of None = []
pledges_of (Some book) = book.pledges

-- the number of the pledge with this reference, if there is one
abbrev pub number_of : Option BookValue → List ℕ → Option ℕ
number_of book reference = option_map (λ p. p.agreement.number) (with_reference (pledges_of book) reference)

-- the entries of a pledge; none if there is no pledge
abbrev pub entries_of : Option PledgeValue → List Entry
entries_of None = []
entries_of (Some p) = p.entries

-- the secrets of a pledge; none if there is no pledge
abbrev pub secrets_of : Option PledgeValue → List Issued
secrets_of None = []
secrets_of (Some p) = p.secrets

-- the extensions of a pledge; none if there is no pledge
abbrev pub extensions_of : Option PledgeValue → List Extension
extensions_of None = []
extensions_of (Some p) = p.extensions

-- the lowest number of a book above `after`, or `None` if there is no such book
abbrev pub IsNextBook : Host → ℕ → Option ℕ → Type 0
IsNextBook h after None = (b : ℕ) (book : BookValue) → get h.books b ≡ Some book → b ≤ after
IsNextBook h after (Some next) =
    (after < next) × ((book : BookValue) × (get h.books next ≡ Some book))
    × ((b : ℕ) (book : BookValue) → get h.books b ≡ Some book → after < b → next ≤ b)
