-- Lemmas on a request for the rows of a book.
use Rattle.pawn_csv.specs.Exports.{text_of}
use Rattle.pawn_host.proofs.RunLemmas.{acted_text, view_request, step_past_gate}
use Rattle.pawn_host.specs.Common.{BookValue, Exported, Host, View, Request, Says, SaysRequest, Stamp, csv_of}
use Rattle.pawn_host.specs.Common.{host_step, reply_text, rows_of_book}
use Rattle.pawn_host.specs.Keeps.{GoesTo, IsActed, IsKeyOf, Kept, Start, States, answer_bytes}
use Rattle.pawn_host.specs.declared.service.Answer.{Answer}
use Rattle.pawn_view.proofs.StatementLemmas.{some_same}
use Rattle.std.proofs.Common.{◌≡◌, ◌∙◌, ℕ, List, ap, sym, Some, None, Ok, codes, option_map}

abbrev pub rows_request : ℕ → ℕ → Request
rows_request book key = view_request book key View.Rows

-- the outcome of an export with the book's key
step_rows : (h : Host) (operator : ℕ) (stamp : Stamp) (book key : ℕ) (with_key : IsKeyOf h book key)
    → host_step h operator stamp (rows_request book key) ≡ Says (Exported (rows_of_book with_key.0))
step_rows h operator stamp book key with_key = step_past_gate h operator stamp book key View.Rows with_key

-- the text of a book that the host has
text_is : (h : Host) (book key : ℕ) (with_key : IsKeyOf h book key) → text_of h book ≡ Some (csv_of (rows_of_book with_key.0))
text_is h book key with_key = ap (option_map (λ (at : BookValue). csv_of (rows_of_book at))) with_key.1

-- each book of the host has a text
pub no_text : (h : Host) (book key : ℕ) → IsKeyOf h book key → text_of h book ≡ None → ⊥
no_text h book key with_key none = (let some = sym (text_is h book key with_key) ∙ none in cc)

-- the answer has the text
pub acted_rows : (start : Start) (stamp : Stamp) (bytes : List ℕ) (answer : Answer) (kept : Kept) (book key : ℕ) (text out : List ℕ)
    → SaysRequest bytes (Ok (rows_request book key)) → IsKeyOf start.host book key → text_of start.host book ≡ Some text → text ≡ out
    → States answer (reply_text 200 (codes "text/csv; charset=utf-8") out) → GoesTo kept start.host start.leaves
    → IsActed start stamp bytes (answer_bytes answer) kept
acted_rows start stamp bytes answer kept book key text out read with_key is all states goes =
    let step = step_rows start.host start.operator stamp book key with_key in
    let same : out ≡ csv_of (rows_of_book with_key.0) = sym all ∙ sym (some_same (sym (text_is start.host book key with_key) ∙ is)) in
    acted_text start stamp bytes answer kept (rows_request book key) (Exported (rows_of_book with_key.0)) (codes "text/csv; charset=utf-8") out read step
    (ap (reply_text 200 (codes "text/csv; charset=utf-8")) same) states goes
