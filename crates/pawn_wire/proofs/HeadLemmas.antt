-- Heads: what the first bytes of a stream determine about the whole stream.
use Rattle.httparse.proofs.GrammarLemmas.{ReadsRequest-append}
use Rattle.httparse.specs.Grammar.{HasNoRequest, ReadsRequest, RequestHead, print_request}
use Rattle.pawn_wire.specs.Common.{AreFieldsAt, HeaderSpan, IsRequestAt, RequestOverflows, RequestSpans, header_bytes}
use Rattle.pawn_wire.specs.Head.{NeverHasHead, ReadsHead, body_length, closes_by, fields_of}
use Rattle.pawn_wire.specs.Limits.{most_fields, most_head}
use Rattle.pawn_wire.specs.Types.{HeadFault}
use Rattle.std.proofs.Common.{◌≡◌, ℕ, ◌+◌, ◌-◌, ◌≤◌, List, ◌++◌, length, map, take, drop, sym, ap, ◌∙◌, arith}
use Rattle.std.proofs.Common.{append_assoc, length-append, length-take, Result, Bool, take-append-drop}
use Rattle.std.proofs.Math.Seq.{take-append-add}
use Rattle.std.proofs.lemmas.List.{length-map, take-append-le}

-- what follows the prefix is no part of the head
pub reads_on : (s : List ℕ) (n : ℕ) (h : RequestHead) (rest : List ℕ) → ReadsRequest (take n s) h rest → ReadsRequest s h (rest ++ drop n s)
reads_on s n h rest r =
    let a = ReadsRequest-append (take n s) h rest (drop n s) r in
    (a.0, sym (take-append-drop n s) ∙ a.1)

-- if each head that begins with the prefix has too many fields, so has each head that begins with the stream
pub overflows_on : (s : List ℕ) (n : ℕ) → RequestOverflows most_fields (take n s) → RequestOverflows most_fields s
overflows_on s n over more h rest r =
    let whole : s ++ more ≡ take n s ++ (drop n s ++ more) =
    sym (sym (append_assoc (take n s) (drop n s) more) ∙ ap (λ xs. xs ++ more) (take-append-drop n s)) in
    over (drop n s ++ more) h rest (rw whole at r)

-- a prefix of full length without a head
pub never_by_length : (s : List ℕ) → most_head ≤ length s → HasNoRequest (take most_head s) → NeverHasHead s
never_by_length s long none more h rest r = none h (take (most_head - length (print_request h)) rest) (r.0.0, front) where
  split : most_head ≡ length (print_request h) + (most_head - length (print_request h))
  split = let small = r.2 in omega arith

  front : take most_head s ≡ print_request h ++ take (most_head - length (print_request h)) rest
  front = sym (take-append-le most_head s more long) ∙ ap (take most_head) r.0.1 ∙ ap (λ n. take n (print_request h ++ rest)) split
      ∙ take-append-add (print_request h) rest (most_head - length (print_request h))

-- the head has as many fields as spans
pub fields_fit : (buf : List ℕ) (spans : List HeaderSpan) (n : ℕ) (h : RequestHead) → AreFieldsAt buf spans n h.fields → n ≤ most_fields
    → length h.fields ≤ most_fields
fields_fit buf spans n h same le =
    let e = ap length same in
    let f = simp length-map at e in
    let g : length (take n spans) ≤ n = rw length-take (omega arith) in
    omega (arith, f)

-- a head of the prefix is one of the stream
pub whole_head : (s : List ℕ) (n : ℕ) (headers : List HeaderSpan) (r : RequestSpans) (h : RequestHead)
    → IsRequestAt (take n s) headers r h → n ≤ most_head → r.headers ≤ most_fields → ReadsHead s h (drop r.len (take n s) ++ drop n s)
whole_head s n headers r h at small few =
    let e = ap length at.reads.1 in
    let f = simp length-append at e in
    let g : length (take n s) ≤ n = rw length-take (omega arith) in
    (reads_on s n h (drop r.len (take n s)) at.reads, fields_fit (take n s) headers r.headers h at.fields few, omega (arith, f))

-- the fields that the spans cover are the fields of the head
pub told_by_fields : (s : List ℕ) (n : ℕ) (headers : List HeaderSpan) (r : RequestSpans) (h : RequestHead) (x : Result ℕ HeadFault)
    → IsRequestAt (take n s) headers r h → x ≡ body_length (map (header_bytes (take n s)) (take r.headers headers)) → body_length (fields_of h) ≡ x
told_by_fields s n headers r h x at e = ap body_length (sym at.fields) ∙ sym e

pub closed_by_fields : (s : List ℕ) (n : ℕ) (headers : List HeaderSpan) (r : RequestSpans) (h : RequestHead) (x : Bool) → IsRequestAt (take n s) headers r h
    → x ≡ closes_by r.version (map (header_bytes (take n s)) (take r.headers headers)) → x ≡ closes_by h.minor (fields_of h)
closed_by_fields s n headers r h x at e = e ∙ (λ i. closes_by (at.version i) (at.fields i))
