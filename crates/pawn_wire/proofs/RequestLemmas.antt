-- Requests.
use Rattle.csv.specs.Reading.{strip_bom}
use Rattle.httparse.proofs.GrammarLemmas.{request_unique}
use Rattle.httparse.specs.Grammar.{HasNoRequest, RequestHead, print_request}
use Rattle.pawn_csv.proofs.OneBook.{texts_hold_one_book}
use Rattle.pawn_csv.proofs.OneReading.{first_faults_are_one, first_faults_exclude_books}
use Rattle.pawn_wire.proofs.HeadLemmas.{overflows_on}
use Rattle.pawn_wire.specs.Chain.{OrMemory, after}
use Rattle.pawn_wire.specs.Common.{BookRows, Broker, HeaderSpan, Import, IsRequestAt, Request, RequestOverflows}
use Rattle.pawn_wire.specs.Common.{RequestSpans, header_bytes, span_bytes}
use Rattle.pawn_wire.specs.Fields.{Pair}
use Rattle.pawn_wire.specs.Head.{ReadsHead, fields_of}
use Rattle.pawn_wire.specs.Limits.{most_fields, most_head}
use Rattle.pawn_wire.specs.Request.{HoldsRows, IsAsked, IsOutlined, IsRequestRead, SaysRequest, outline_by}
use Rattle.pawn_wire.specs.Types.{Asks, Csv, Outline, WireFault}
use Rattle.std.proofs.Common.{◌≡◌, ℕ, ◌+◌, ◌-◌, ◌≤◌, List, [], ◌++◌, length, map, take, drop, subst, sym, ap, ◌∙◌}
use Rattle.std.proofs.Common.{arith, append-nil, length-append, length-drop, min, Result, Ok, Err, inl, inr}
use Rattle.std.proofs.Common.{take-append-drop}
use Rattle.std.proofs.Math.Seq.{take-append-add, take-length}
use Rattle.std.proofs.lemmas.List.{drop-append-le}

pub is_read : (s : List ℕ) (r : Result Request WireFault) (h : RequestHead) (body : List ℕ) → ReadsHead s h body
    → OrMemory (IsOutlined body (outline_by h.method h.target (fields_of h) body)) r → IsRequestRead s r
is_read s (Ok v) h body x e = inl (h, body, x, e)
is_read s (Err f) h body x (inl m) = inl m
is_read s (Err f) h body x (inr e) = inr (inl (h, body, x, e))

-- reading a request through the spans has the same result as reading it from the head
pub said_by_spans : (s : List ℕ) (n : ℕ) (headers : List HeaderSpan) (r : RequestSpans) (h : RequestHead) (answer : Result Request WireFault) → IsRequestAt
    (take n s) headers r h → r.len ≤ length (take n s) → OrMemory (IsOutlined (take (length s - r.len) (drop r.len s)) (outline_by (span_bytes (take n s)
    r.method) (span_bytes (take n s) r.path) (map (header_bytes (take n s)) (take r.headers headers)) (take (length s - r.len) (drop r.len s)))) answer
    → OrMemory (IsOutlined (drop r.len (take n s) ++ drop n s) (outline_by h.method h.target (fields_of h) (drop r.len (take n s) ++ drop n s))) answer
said_by_spans s n headers r h answer at fits said =
    subst (λ (q : List ℕ × List ℕ × List Pair × List ℕ). OrMemory (IsOutlined q.3 (outline_by q.0 q.1 q.2 q.3)) answer)
    (λ i. (at.method i, at.path i, at.fields i, rest i)) said
  where
    rest : take (length s - r.len) (drop r.len s) ≡ drop r.len (take n s) ++ drop n s
    rest = ap (λ m. take m (drop r.len s)) (sym (length-drop r.len s))
        ∙ take-length (drop r.len s) ∙ sym (ap (drop r.len) (take-append-drop n s)) ∙ drop-append-le r.len (take n s) (drop n s) fits

-- if there is no head in the prefix, there is none
pub none_in_front : (s : List ℕ) (n : ℕ) → n ≡ min (length s) most_head → HasNoRequest (take n s) → (h : RequestHead) (body : List ℕ) → ReadsHead s h body → ⊥
none_in_front s n e none h body x = none h (take (n - length (print_request h)) body) (x.0.0, front) where
  fits : length (print_request h) ≤ n
  fits = let a = simp length-append at (ap length x.0.1) in let b = x.2 in omega (arith, a)

  split : n ≡ length (print_request h) + (n - length (print_request h))
  split = omega (arith, fits)

  front : take n s ≡ print_request h ++ take (n - length (print_request h)) body
  front = ap (take n) x.0.1 ∙ ap (λ m. take m (print_request h ++ body)) split ∙ take-append-add (print_request h) body (n - length (print_request h))

pub none_by_overflow : (s : List ℕ) (n : ℕ) → RequestOverflows most_fields (take n s) → (h : RequestHead) (body : List ℕ) → ReadsHead s h body → ⊥
none_by_overflow s n over h body x =
    let k = overflows_on s n over [] h body (x.0.0, append-nil s ∙ x.0.1) in
    omega (arith, x.1)

-- a body is the text of at most one book, or has one first fault
held_once : (body : List ℕ) (a b : Result BookRows WireFault) → HoldsRows body a → HoldsRows body b → a ≡ b
held_once body (Ok j) (Ok k) x y = ap Ok (texts_hold_one_book (strip_bom body) j k x y)
held_once body (Ok j) (Err fault) x y = absurd (first_faults_exclude_books (strip_bom body) y.0.cause y.0.row j y.2 y.3 x)
held_once body (Err fault) (Ok k) x y = absurd (first_faults_exclude_books (strip_bom body) x.0.cause x.0.row k x.2 x.3 y)
held_once body (Err e) (Err f) x y =
    let same = first_faults_are_one (strip_bom body) x.0.cause y.0.cause x.0.row y.0.row x.2 y.2 x.3 y.3 in
    let csv : x.0 ≡ y.0 = λ i. record { cause = same.0 i; row = same.1 i } in
    ap Err (x.1 ∙ ap Csv csv ∙ sym y.1)

asked_once : (body : List ℕ) (book : ℕ) (asked : Asks) (a b : Result Request WireFault) → IsAsked body book asked a → IsAsked body book asked b → a ≡ b
asked_once body book (Asks.Whole caller) a b x y = x ∙ sym y
asked_once body book (Asks.Import key import_key) a b x y =
    let once = held_once body x.0 y.0 x.1 y.1 in
    x.2 ∙ ap (λ held. after held (λ rows. Ok (record { book = book; caller = Broker key (Import import_key rows) }))) once ∙ sym y.2

outlined_once : (body : List ℕ) (said : Result Outline WireFault) (a b : Result Request WireFault) → IsOutlined body said a → IsOutlined body said b → a ≡ b
outlined_once body (Ok outline) a b x y = asked_once body outline.book outline.asks a b x y
outlined_once body (Err fault) a b x y = x ∙ sym y

-- bytes can be read in one way only
pub reads_unique : (s : List ℕ) (a b : Result Request WireFault) → SaysRequest s a → SaysRequest s b → a ≡ b
reads_unique s a b (inl x) (inl y) =
    let same = request_unique s x.0 y.0 x.1 y.1 x.2.0 y.2.0 in
    outlined_once y.1 (outline_by y.0.method y.0.target (fields_of y.0) y.1) a b
    (subst (λ (q : RequestHead × List ℕ). IsOutlined q.1 (outline_by q.0.method q.0.target (fields_of q.0) q.1) a) (λ i. (same.0 i, same.1 i)) x.3) y.3
reads_unique s a b (inl x) (inr y) = absurd (y.0 x.0 x.1 x.2)
reads_unique s a b (inr x) (inl y) = absurd (x.0 y.0 y.1 y.2)
reads_unique s a b (inr x) (inr y) = x.1 ∙ sym y.1
