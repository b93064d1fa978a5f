-- A plan whose change is saved is the host's step.
use Rattle.pawn_book.specs.BookStep.{BookValue, Makes, Outcome, Refuses, Says, Replied, book_step, changed_book, out_of}
use Rattle.pawn_book.specs.Books.{Change, Full, Refusal, Reply, Request}
use Rattle.pawn_book.specs.Changes.{book_number, with_change}
use Rattle.pawn_book.specs.Common.{Stamp}
use Rattle.pawn_book.specs.HostStep.{Host, host_after, host_step, rows, with_book, within_limit}
use Rattle.pawn_book.specs.Keeping.{IsLeftBy}
use Rattle.pawn_book.specs.Plans.{Acts, Commits, IsLeftByAct, IsLeftByCommit, IsLeftByStep, IsUnwell, Plans, next_host}
use Rattle.pawn_book.specs.Sound.{IsSound}
use Rattle.pawn_book.specs.declared.fault.SaveError.{SaveError}
use Rattle.std.proofs.Common.{◌≡◌, ℕ, ◌<◌, ◌≤◌, Some, None, Ok, Err, refl, ◌∙◌, ap, sym, subst, arith, inl, inr, Result}
use Rattle.std.proofs.Common.{if◌then◌else◌, Option, true, false, nat_lt, ◌⊎◌}
use Rattle.std.proofs.lemmas.Bool.Decides.{nat_tests}
use Rattle.std.specs.FinMap.{get}
use Rattle.pawn_book.specs.declared.fault.SaveError.TheVariants as Save

-- the step of the request's book
abbrev pub step_of : Host → ℕ → Stamp → Request → Outcome
step_of h operator stamp request = book_step (get h.books request.book) operator request.book stamp request.caller

-- a refused plan is a refused step
pub refused_acts : (h : Host) (operator : ℕ) (stamp : Stamp) (request : Request) (stands : Host → Type 0) (why : Refusal)
    → Plans h request.book (step_of h operator stamp request) (Err why) → stands h → Acts h operator stamp request (Err why) stands
refused_acts h operator stamp request stands why (inl unwell) at = (at, inl unwell)
refused_acts h operator stamp request stands why (inr is) at = (at, inr (ap (within_limit h request.book) is))

same_change : (h : Host) (b : ℕ) (change : Change) → book_number change ≡ b → with_book h b (changed_book (get h.books b) change) ≡ with_change h change
same_change h b change is = ap (λ (c : ℕ). with_book h c (changed_book (get h.books c) change)) (sym is)

same_limit : (h : Host) (b : ℕ) (book : Option BookValue) → (with_book h b book).limit ≡ h.limit
same_limit h b None = refl
same_limit h b (Some book) = refl

-- a change for which there is room
fitting : (h : Host) (b : ℕ) (change : Change) (reply : Reply) → book_number change ≡ b → rows (with_change h change) ≤ h.limit
    → within_limit h b (Makes change reply) ≡ Makes change reply
fitting h b change reply is room =
    let fits : rows (with_book h b (changed_book (get h.books b) change)) ≤ h.limit =
    subst (λ (g : Host). rows g ≤ h.limit) (sym (same_change h b change is)) room in
    let no : nat_lt h.limit (rows (with_book h b (changed_book (get h.books b) change))) ≡ false = grind (arith, nat_tests, fits) in
    ap (λ v. if v then Refuses Full else Makes change reply) no

-- .. and one for which there is none
crowding : (h : Host) (b : ℕ) (change : Change) (reply : Reply) → book_number change ≡ b → h.limit < rows (with_change h change)
    → within_limit h b (Makes change reply) ≡ Refuses Full
crowding h b change reply is over =
    let more : h.limit < rows (with_book h b (changed_book (get h.books b) change)) =
    subst (λ (g : Host). h.limit < rows g) (sym (same_change h b change is)) over in
    let yes : nat_lt h.limit (rows (with_book h b (changed_book (get h.books b) change))) ≡ true = grind (arith, nat_tests, more) in
    ap (λ v. if v then Refuses Full else Makes change reply) yes

-- a plan whose change was saved is the step
pub made_acts : (h : Host) (operator : ℕ) (stamp : Stamp) (request : Request) (stands : Host → Type 0) (change : Option Change) (reply : Reply)
    → IsSound h → Plans h request.book (step_of h operator stamp request) (Ok (record { change = change; reply = reply })) → Commits h change (Ok tt) stands
    → Acts h operator stamp request (Ok reply) stands
made_acts h operator stamp request stands None reply sound plans made =
    let is : host_step h operator stamp request ≡ Says (Replied reply) = ap (within_limit h request.book) plans.0 in
    let after : next_host h operator stamp request ≡ h = ap (host_after h request.book) is in
    (ap out_of is, subst stands (sym after) made, subst IsSound (sym after) sound)
made_acts h operator stamp request stands (Some change) reply sound plans made =
    let is : host_step h operator stamp request ≡ Makes change reply = ap (within_limit h request.book) plans.0
    ∙ fitting h request.book change reply plans.1.0 made.1 in
    let after : next_host h operator stamp request ≡ with_change h change = ap (host_after h request.book) is ∙ same_change h request.book change plans.1.0 in
    let fits : rows (with_change h change) ≤ (with_change h change).limit =
    subst (λ (n : ℕ). rows (with_change h change) ≤ n)
    (sym (same_limit h (book_number change) (changed_book (get h.books (book_number change)) change))) made.1 in
    (ap out_of is, subst stands (sym after) made.0, subst IsSound (sym after) (record { books = plans.1.1.sound; fits = fits }))

-- a plan whose change was not saved
pub unmade_acts : (h : Host) (operator : ℕ) (stamp : Stamp) (request : Request) (stands : Host → Type 0) (change : Option Change) (reply : Reply)
    (why : Refusal) → Plans h request.book (step_of h operator stamp request) (Ok (record { change = change; reply = reply }))
    → Commits h change (Err why) stands → Acts h operator stamp request (Err why) stands
unmade_acts h operator stamp request stands None reply why plans made = absurd made
unmade_acts h operator stamp request stands (Some change) reply why plans made = (made.0, from made.1) where
  from : IsUnwell why ⊎ ((why ≡ Full) × (h.limit < rows (with_change h change))) → IsUnwell why ⊎ (host_step h operator stamp request ≡ Refuses why)
  from (inl unwell) = inl unwell
  from (inr full) = inr (ap (within_limit h request.book) plans.0 ∙ crowding h request.book change reply plans.1.0 full.1 ∙ ap Refuses (sym full.0))

-- what a crash may leave

-- after a change that was saved
pub saved_left : (h : Host) (change : Option Change) (c : Change) (before : Host → Type 0) (result : Result (Unit {0}) SaveError) (done : Unit {0})
    (left : Host) → change ≡ Some c → result ≡ Ok done → IsLeftBy h c before result left → IsLeftByCommit h change before (Ok tt) left
saved_left h change c before result done left is ok by =
    let after : left ≡ with_change h c = subst (λ (r : Result (Unit {0}) SaveError). IsLeftBy h c before r left) ok by in
    subst (λ o. IsLeftByCommit h o before (Ok tt) left) (sym is) after

-- how the error of a save is reported
abbrev pub IsRefusalOf : SaveError → Refusal → Type 0
IsRefusalOf Save.Full why = why ≡ Full
IsRefusalOf Save.Memory why = IsUnwell why
IsRefusalOf (Save.Store fault) why = IsUnwell why

-- after a change that was not saved: the rows are full, memory ran out, or the store failed
unsaved_left : (h : Host) (c : Change) (before : Host → Type 0) (error : SaveError) (why : Refusal) (left : Host)
    → IsRefusalOf error why → IsLeftBy {T = Unit {0}} h c before (Err error) left → IsLeftByCommit h (Some c) before (Err why) left
unsaved_left h c before Save.Full why left full by = inl by
unsaved_left h c before Save.Memory why left unwell (inl same) = inl same
unsaved_left h c before Save.Memory why left unwell (inr fits) = inr (unwell, fits)
unsaved_left h c before (Save.Store fault) why left unwell (inl same) = inl same
unsaved_left h c before (Save.Store fault) why left unwell (inr fits) = inr (unwell, fits)

pub refused_left : (h : Host) (change : Option Change) (c : Change) (before : Host → Type 0) (result : Result (Unit {0}) SaveError) (error : SaveError)
    (why : Refusal) (left : Host)
    → change ≡ Some c → result ≡ Err error → IsRefusalOf error why → IsLeftBy h c before result left → IsLeftByCommit h change before (Err why) left
refused_left h change c before result error why left is err refusal by =
    subst (λ o. IsLeftByCommit h o before (Err why) left) (sym is)
    (unsaved_left h c before error why left refusal (subst (λ (r : Result (Unit {0}) SaveError). IsLeftBy h c before r left) err by))

-- after the step of a plan whose change was saved
pub made_left : (h : Host) (operator : ℕ) (stamp : Stamp) (request : Request) (change : Option Change) (reply : Reply) (stands before mid : Host → Type 0)
    (left : Host) → Plans h request.book (step_of h operator stamp request) (Ok (record { change = change; reply = reply })) → Commits h change (Ok tt) stands
    → ((g : Host) → mid g → before g) → IsLeftByCommit h change mid (Ok tt) left → IsLeftByAct h operator stamp request before (Ok reply) left
made_left h operator stamp request None reply stands before mid left plans made back by =
    let is : host_step h operator stamp request ≡ Says (Replied reply) = ap (within_limit h request.book) plans.0 in
    subst (λ o. IsLeftByStep h request.book o before left) (sym is) (back left by)
made_left h operator stamp request (Some change) reply stands before mid left plans made back by =
    let is : host_step h operator stamp request ≡ Makes change reply = ap (within_limit h request.book) plans.0
    ∙ fitting h request.book change reply plans.1.0 made.1 in
    subst (λ o. IsLeftByStep h request.book o before left) (sym is) (by ∙ sym (same_change h request.book change plans.1.0))

-- after the step of a plan whose change was not saved
pub unmade_left : (h : Host) (operator : ℕ) (stamp : Stamp) (request : Request) (change : Option Change) (reply : Reply) (why : Refusal)
    (before mid : Host → Type 0) (left : Host) → Plans h request.book (step_of h operator stamp request) (Ok (record { change = change; reply = reply }))
    → ((g : Host) → mid g → before g) → IsLeftByCommit h change mid (Err why) left → IsLeftByAct h operator stamp request before (Err why) left
unmade_left h operator stamp request None reply why before mid left plans back by = inl (back left by)
unmade_left h operator stamp request (Some change) reply why before mid left plans back (inl same) = inl (back left same)
unmade_left h operator stamp request (Some change) reply why before mid left plans back (inr fits) =
    let is : host_step h operator stamp request ≡ Makes change reply = ap (within_limit h request.book) plans.0
    ∙ fitting h request.book change reply plans.1.0 fits.1.1 in
    inr (fits.0, fits.1.0 ∙ sym (ap (host_after h request.book) is ∙ same_change h request.book change plans.1.0))
