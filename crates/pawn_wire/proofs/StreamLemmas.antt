-- Heads at the beginning of a stream, and what follows them.
use Rattle.httparse.proofs.GrammarLemmas.{ReadsRequest-append, print_request-append}
use Rattle.httparse.specs.Grammar.{IsRequestHead, RequestHead, is_token_byte, is_uri_byte, lf, print_request}
use Rattle.pawn_reply.specs.declared.fault.HeadFault.TheVariants.{Transfer, BadLength, BodyTooLong}
use Rattle.pawn_wire.specs.Common.{RequestOverflows, first_of}
use Rattle.pawn_wire.specs.Fields.{Pair}
use Rattle.pawn_wire.specs.Head.{IsBadHead, IsHead, NeverHasHead, ReadsHead, body_length, fields_of, length_by}
use Rattle.pawn_wire.specs.Limits.{most_body, most_fields, most_head}
use Rattle.pawn_wire.specs.Types.{HeadFacts}
use Rattle.std.proofs.Common.{◌≡◌, ℕ, ◌+◌, ◌<◌, ◌≤◌, List, [], ◌∷◌, ◌++◌, length, refl, sym, ap, ◌∙◌, arith}
use Rattle.std.proofs.Common.{append_assoc, append-nil, length-append, take, Ok, inl, inr, true, false, Bool, IsTrue}
use Rattle.std.proofs.Common.{nat_lt, unwrap_or}
use Rattle.std.proofs.Math.Seq.{take-append-add}
use Rattle.std.proofs.lemmas.Bool.Decides.{nat_tests}
use Rattle.std.proofs.lemmas.List.Elements.{All-cons, All-nil}

-- a head stays a head, whatever follows
pub reads_more : (s more : List ℕ) (h : RequestHead) (rest : List ℕ) → ReadsHead s h rest → ReadsHead (s ++ more) h (rest ++ more)
reads_more s more h rest x = (ReadsRequest-append s h rest more x.0, x.1, x.2)

overflows_more : (s more : List ℕ) → RequestOverflows most_fields s → RequestOverflows most_fields (s ++ more)
overflows_more s more over rest h q x = over (more ++ rest) h q (x.0, sym (append_assoc s more rest) ∙ x.1)

never_more : (s more : List ℕ) → NeverHasHead s → NeverHasHead (s ++ more)
never_more s more never rest h q x = never (more ++ rest) h q ((x.0.0, sym (append_assoc s more rest) ∙ x.0.1), x.1, x.2)

-- a bad head stays bad, whatever follows
pub bad_head_stays : (s more : List ℕ) → IsBadHead s → IsBadHead (s ++ more)
bad_head_stays s more (inl over) = inl (overflows_more s more over)
bad_head_stays s more (inr full) = inr (simp length-append (omega (arith, full.0)), never_more s more full.1)

-- bytes that begin with a bad head have no head
pub bad_head_never : (s : List ℕ) → IsBadHead s → NeverHasHead s
bad_head_never s (inl over) more h rest r = let k = over more h rest r.0 in omega (arith, r.1)
bad_head_never s (inr full) more h rest r = full.1 more h rest r

-- the bytes of a whole request are one by themselves
pub whole_front : (s : List ℕ) (h : RequestHead) (rest : List ℕ) (n : ℕ) → ReadsHead s h rest
    → ReadsHead (take (length (print_request h) + n) s) h (take n rest)
whole_front s h rest n x = ((x.0.0, ap (take (length (print_request h) + n)) x.0.1 ∙ take-append-add (print_request h) rest n), x.1, x.2)

-- a head is not empty
pub head_some : (h : RequestHead) → 0 < length (print_request h)
head_some h =
    let e = simp length-append at (ap length (print_request-append h [])) in
    omega (arith, e)

-- the head of `GET / HTTP/1.1`, with no field
abbrev plain_head : RequestHead
plain_head = record { blank = []; method = 71 ∷ 69 ∷ 84 ∷ []; target = 47 ∷ []; minor = 1; line_end = lf; fields = []; last = lf }

plain_is : IsRequestHead plain_head
unfolding is_token_byte lib.Utf8.encode
plain_is = record {
  method = (
    omega arith,
    All-cons (λ b. IsTrue (is_token_byte b)) 71 (69 ∷ 84 ∷ []) refl (All-cons (λ b. IsTrue (is_token_byte b)) 69 (84 ∷ []) refl
        (All-cons (λ b. IsTrue (is_token_byte b)) 84 [] refl (All-nil (λ b. IsTrue (is_token_byte b))))),
  );
  target = (omega arith, All-cons (λ b. IsTrue (is_uri_byte b)) 47 [] refl (All-nil (λ b. IsTrue (is_uri_byte b))));
  target_text = (47 ∷ [], (refl, refl));
  minor = omega arith;
  fields = All-nil _;
}

-- the empty stream can still become a head
pub nil_is_no_bad_head : IsBadHead [] → ⊥
nil_is_no_bad_head (inl over) =
    (let k = over (print_request plain_head) plain_head [] (plain_is, sym (append-nil (print_request plain_head))) in omega (arith, k))
nil_is_no_bad_head (inr full) = omega (arith, full.0)

-- ---- a head's facts are within the limits

body_within : (fields : List Pair) (n : ℕ) → body_length fields ≡ Ok n → n ≤ most_body
body_within fields n e = by_test _ _ (unwrap_or (length_by fields) 0) (nat_lt most_body (unwrap_or (length_by fields) 0)) refl e where
  by_test : (coded bad : Bool) (told : ℕ) (long : Bool) → nat_lt most_body told ≡ long
      → first_of ((coded, Transfer) ∷ (bad, BadLength) ∷ (long, BodyTooLong) ∷ []) (Ok told) ≡ Ok n → n ≤ most_body
  by_test true bad told long is same = absurd cc
  by_test false true told long is same = absurd cc
  by_test false false told true is same = absurd cc
  by_test false false told false is same = (let k : told ≡ n = cc in grind (arith, nat_tests, k, is))

-- a head and its body have few bytes
pub head_within : (h : RequestHead) (f : HeadFacts) → length (print_request h) ≤ most_head → IsHead h f → f.len + f.body ≤ most_head + most_body
head_within h f small is =
    let body = body_within (fields_of h) f.body is.body in
    omega (arith, body, is.len, small)
