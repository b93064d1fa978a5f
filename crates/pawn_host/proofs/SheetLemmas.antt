-- Lemmas on a request for the sheet of a day.
use Rattle.pawn_book.specs.Sheet.{day_sheet}
use Rattle.pawn_host.proofs.RunLemmas.{acted_text, view_request, plain, step_past_gate}
use Rattle.pawn_host.specs.Common.{BookValue, Host, Listed, Out, Request, Says, SaysRequest, Stamp, View, host_step}
use Rattle.pawn_host.specs.Common.{reply_text}
use Rattle.pawn_host.specs.Keeps.{GoesTo, IsActed, IsKeyOf, Kept, Start, States, answer_bytes}
use Rattle.pawn_host.specs.declared.service.Answer.{Answer}
use Rattle.pawn_view.proofs.StatementLemmas.{some_same}
use Rattle.pawn_view.specs.Sheets.{book_sheet, sheet_of}
use Rattle.std.proofs.Common.{◌≡◌, ◌∙◌, ℕ, List, ap, sym, Some, None, Ok, option_map}

abbrev pub sheet_request : ℕ → ℕ → ℕ → Request
sheet_request book key day = view_request book key (View.Sheet day)

-- the view of a book's day
abbrev book_listed : ℕ → BookValue → Out
book_listed day book = Listed day book.capacity (day_sheet book.pledges day)

-- the outcome of a request for a day, with the book's key
step_sheet : (h : Host) (operator : ℕ) (stamp : Stamp) (book key day : ℕ) (with_key : IsKeyOf h book key)
    → host_step h operator stamp (sheet_request book key day) ≡ Says (book_listed day with_key.0)
step_sheet h operator stamp book key day with_key = step_past_gate h operator stamp book key (View.Sheet day) with_key

-- the sheet of a book that the host has
sheet_is : (h : Host) (book key day : ℕ) (with_key : IsKeyOf h book key) → sheet_of h book day ≡ Some (book_sheet day with_key.0)
sheet_is h book key day with_key = ap (option_map (book_sheet day)) with_key.1

-- each book of the host has a sheet
pub no_sheet : (h : Host) (book key day : ℕ) → IsKeyOf h book key → sheet_of h book day ≡ None → ⊥
no_sheet h book key day with_key none = (let some = sym (sheet_is h book key day with_key) ∙ none in cc)

-- the answer has the sheet
pub acted_sheet : (start : Start) (stamp : Stamp) (bytes : List ℕ) (answer : Answer) (kept : Kept) (book key day shown : ℕ) (text out : List ℕ)
    → SaysRequest bytes (Ok (sheet_request book key day)) → IsKeyOf start.host book key → shown ≡ day → sheet_of start.host book shown ≡ Some text → text ≡ out
    → States answer (reply_text 200 plain out) → GoesTo kept start.host start.leaves → IsActed start stamp bytes (answer_bytes answer) kept
acted_sheet start stamp bytes answer kept book key day shown text out read with_key day_is is all states goes =
    let step = step_sheet start.host start.operator stamp book key day with_key in
    let same : out ≡ book_sheet day with_key.0 =
    sym all ∙ sym (some_same (sym (sheet_is start.host book key shown with_key) ∙ is)) ∙ ap (λ (x : ℕ). book_sheet x with_key.0) day_is in
    acted_text start stamp bytes answer kept (sheet_request book key day) (book_listed day with_key.0) plain out read step
    (ap (reply_text 200 plain) same) states goes
