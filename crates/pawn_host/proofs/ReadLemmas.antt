-- What was read while the service waited for a request.
use Rattle.httparse.proofs.GrammarLemmas.{request_unique}
use Rattle.pawn_host.proofs.LawLemmas.{ok_same}
use Rattle.pawn_host.proofs.SplitLemmas.{front_request, length_snoc, passes-snoc}
use Rattle.pawn_host.specs.Common.{Consumes, HeadFacts, IsHeadRead, Keeps, Partial, ReadsHead, body_length, concat}
use Rattle.pawn_host.specs.Common.{fields_of, print_request}
use Rattle.pawn_host.specs.Finding.{AreMissing, FindsHead, HasHead, IsFetched}
use Rattle.pawn_host.specs.Session.{IsReadWhileWanted}
use Rattle.pawn_host.specs.Split.{AreWanted, HasNoWhole, IsRequest, PassesOver, most_requests}
use Rattle.pawn_host.specs.declared.session.Rest.{Rest}
use Rattle.pawn_wire.proofs.StreamLemmas.{reads_more}
use Rattle.std.proofs.Common.{◌≡◌, ℕ, ◌+◌, ◌<◌, ◌≤◌, Bool, false, List, [], ◌∷◌, ◌++◌, length, take, drop, refl, arith}
use Rattle.std.proofs.Common.{Option, Some, None, Result, Ok, Err, sym, ◌∙◌, ap, subst, append_assoc, append-nil}
use Rattle.std.proofs.Common.{length-append, IfOk, take-append-drop}
use Rattle.std.proofs.KnownBytes.{Consumes-nil, Consumes-trans}
use Rattle.std.proofs.lemmas.List.Folds.{concat-append}

-- ---- the buffer does not begin with a whole request

-- a whole request begins with a head
front_head : (rest request more : List ℕ) (closes : Bool) → rest ≡ request ++ more → (q : IsRequest request closes) → ReadsHead rest q.head (q.body ++ more)
front_head rest request more closes parts q =
    subst (λ (l : List ℕ). ReadsHead l q.head (q.body ++ more)) (sym parts) (reads_more request more q.head q.body q.reads)

pub partial_has_no_whole : (buffer : List ℕ) → IsHeadRead buffer Partial → HasNoWhole buffer
partial_has_no_whole buffer answers request more closes parts q = answers.1 q.head (q.body ++ more) (front_head buffer request more closes parts q).0

pub short_has_no_whole : (buffer : List ℕ) (f : HeadFacts) → HasHead buffer f → length buffer < f.len + f.body → HasNoWhole buffer
short_has_no_whole buffer f has short request more closes parts q =
    let here = front_head buffer request more closes parts q in
    let same = request_unique buffer has.0 q.head has.1 (q.body ++ more) has.2.0 here.0 in
    let body : f.body ≡ length q.body = ok_same f.body (length q.body) (sym has.3.body ∙ ap (λ h. body_length (fields_of h)) same.0 ∙ q.framed) in
    let len : length buffer ≡ length (print_request has.0) + length has.1 = ap length has.2.0.1 ∙ length-append (print_request has.0) has.1 in
    omega (arith, short, body, has.3.len, len, ap length same.1, length-append q.body more)

-- ---- the pieces that were read

missing_more : (buffer : List ℕ) (pieces : List (List ℕ)) (more : List (List ℕ)) → AreMissing buffer pieces → AreMissing (buffer ++ concat pieces) more
    → AreMissing buffer (pieces ++ more)
missing_more buffer [] more first then = subst (λ (b : List ℕ). AreMissing b more) (append-nil buffer) then
missing_more buffer (p ∷ ps) more first then =
    (first.0, missing_more (buffer ++ p) ps more first.1 (subst (λ (b : List ℕ). AreMissing b more) (sym (append_assoc buffer p (concat ps))) then))

concat_one : (p : List ℕ) → concat (p ∷ []) ≡ p
concat_one p = append-nil p

concat_snoc : (pieces : List (List ℕ)) (p : List ℕ) → concat (pieces ++ p ∷ []) ≡ concat pieces ++ p
concat_snoc pieces p = concat-append pieces (p ∷ []) ∙ ap (λ (l : List ℕ). concat pieces ++ l) (concat_one p)

-- ---- one more read while a request is awaited

-- what was read so far while a head or a body is awaited
pub record FetchedSoFar (buffer now : List ℕ) (before after : Option (List ℕ)) (reads reads' : ℕ) : Type 0 where
  pub pieces : List (List ℕ)
  pub count : reads' ≡ reads + length pieces
  pub missing : AreMissing buffer pieces
  pub gave : Consumes before after (concat pieces)
  pub grown : now ≡ buffer ++ concat pieces

pub fetched_more : (buffer now now' piece : List ℕ) (a b c : Option (List ℕ)) (reads reads' reads'' : ℕ) (so : FetchedSoFar buffer now a b reads reads')
    → HasNoWhole now → reads'' ≡ reads' + 1 → Consumes b c piece → now' ≡ now ++ piece → FetchedSoFar buffer now' a c reads reads''
fetched_more buffer now now' piece a b c reads reads' reads'' so none counted gave is = record {
  pieces = so.pieces ++ piece ∷ [];
  count = omega (arith, counted, so.count, length-append so.pieces (piece ∷ []));
  missing = missing_more buffer so.pieces (piece ∷ []) so.missing (subst HasNoWhole so.grown none, tt);
  gave = subst (λ (l : List ℕ). Consumes a c l) (sym (concat_snoc so.pieces piece)) (Consumes-trans a b c (concat so.pieces) piece so.gave gave);
  grown = is ∙ ap (λ (l : List ℕ). l ++ piece) so.grown ∙ append_assoc buffer (concat so.pieces) piece
      ∙ ap (λ (l : List ℕ). buffer ++ l) (sym (concat_snoc so.pieces piece));
}

keeps_is_none : (b c : Option (List ℕ)) → Keeps b c → Consumes b c []
keeps_is_none None c k = tt
keeps_is_none (Some x) None k = k
keeps_is_none (Some x) (Some y) k = sym k

-- the wait ended because there was no memory for the bytes that were read
pub fetched_last : (buffer now piece : List ℕ) (a b c : Option (List ℕ)) (reads reads' reads'' : ℕ) → FetchedSoFar buffer now a b reads reads' → HasNoWhole now
    → reads'' ≡ reads' + 1 → Consumes b c piece → FetchedSoFar buffer (now ++ piece) a c reads reads''
fetched_last buffer now piece a b c reads reads' reads'' so none counted gave =
    fetched_more buffer now (now ++ piece) piece a b c reads reads' reads'' so none counted gave refl

-- the wait ended without a request, whatever is left in the buffer
pub fetched_other : (rest : Rest) (buffer now now' : List ℕ) (a b : Option (List ℕ)) (reads reads' : ℕ) → FetchedSoFar buffer now a b reads reads'
    → IsFetched (Err rest) buffer now' a b reads reads'
fetched_other rest buffer now now' a b reads reads' so = record { pieces = so.pieces; count = so.count; missing = so.missing; gave = so.gave; grown = tt }

-- a read returned no bytes
pub fetched_nothing : (buffer now : List ℕ) (a b c : Option (List ℕ)) (reads reads' reads'' : ℕ) → FetchedSoFar buffer now a b reads reads' → HasNoWhole now
    → reads'' ≡ reads' + 1 → Keeps b c → FetchedSoFar buffer now a c reads reads''
fetched_nothing buffer now a b c reads reads' reads'' so none counted kept =
    fetched_more buffer now now [] a b c reads reads' reads'' so none counted (keeps_is_none b c kept) (sym (append-nil now))

-- one wait after another
pub fetched_then : (found : Result HeadFacts Rest) (head : HeadFacts) (buffer now now' : List ℕ) (a b c : Option (List ℕ)) (reads reads' reads'' : ℕ)
    → IsFetched (Ok head) buffer now a b reads reads' → IsFetched found now now' b c reads' reads'' → IsFetched found buffer now' a c reads reads''
fetched_then found head buffer now now' a b c reads reads' reads'' one two = record {
  pieces = one.pieces ++ two.pieces;
  count = omega (arith, one.count, two.count, length-append one.pieces two.pieces);
  missing = missing_more buffer one.pieces two.pieces one.missing (subst (λ (l : List ℕ). AreMissing l two.pieces) one.grown two.missing);
  gave = subst (λ (l : List ℕ). Consumes a c l) (sym (concat-append one.pieces two.pieces))
      (Consumes-trans a b c (concat one.pieces) (concat two.pieces) one.gave two.gave);
  grown = grown found two.grown;
} where
  more : now' ≡ now ++ concat two.pieces → now' ≡ buffer ++ concat (one.pieces ++ two.pieces)
  more e = e ∙ ap (λ (l : List ℕ). l ++ concat two.pieces) one.grown ∙ append_assoc buffer (concat one.pieces) (concat two.pieces)
      ∙ ap (λ (l : List ℕ). buffer ++ l) (sym (concat-append one.pieces two.pieces))

  grown : (found : Result HeadFacts Rest) → IfOk found (λ head. now' ≡ now ++ concat two.pieces)
      → IfOk found (λ head. now' ≡ buffer ++ concat (one.pieces ++ two.pieces))
  grown (Ok head) e = more e
  grown (Err rest) e = tt

-- ---- over the requests of a session

passes-append : (s : List ℕ) (requests : List (List ℕ)) (rest more : List ℕ) → PassesOver s requests rest → PassesOver (s ++ more) requests (rest ++ more)
passes-append s [] rest more p = ap (λ (l : List ℕ). l ++ more) p
passes-append s (r ∷ rs) rest more p = (p.0 ++ more, ap (λ (l : List ℕ). l ++ more) p.1 ∙ append_assoc r p.0 more, p.2, passes-append p.0 rs rest more p.3)

-- pieces that were read while the buffer had no whole request were read while more bytes were wanted
wanted_of : (come : List ℕ) (requests : List (List ℕ)) (buffer : List ℕ) (pieces : List (List ℕ)) → PassesOver come requests buffer
    → length requests < most_requests → AreMissing buffer pieces → AreWanted come pieces
wanted_of come requests buffer [] passes few missing = tt
wanted_of come requests buffer (p ∷ ps) passes few missing =
    ((requests, buffer, passes, few, missing.0), wanted_of (come ++ p) requests (buffer ++ p) ps (passes-append come requests buffer p passes) few missing.1)

wanted_more : (come : List ℕ) (pieces more : List (List ℕ)) → AreWanted come pieces → AreWanted (come ++ concat pieces) more → AreWanted come (pieces ++ more)
wanted_more come [] more first then = subst (λ (l : List ℕ). AreWanted l more) (append-nil come) then
wanted_more come (p ∷ ps) more first then =
    (first.0, wanted_more (come ++ p) ps more first.1 (subst (λ (l : List ℕ). AreWanted l more) (sym (append_assoc come p (concat ps))) then))

-- what was read so far in a session: the requests that were acted on, and the buffer
pub record ReadSoFar (before after : Option (List ℕ)) (count acted : ℕ) (buffer : List ℕ) : Type 0 where
  pub pieces : List (List ℕ)
  pub count_is : length pieces ≡ count
  pub wanted : AreWanted [] pieces
  pub gave : Consumes before after (concat pieces)
  pub requests : List (List ℕ)
  pub acted_is : length requests ≡ acted
  pub passes : PassesOver (concat pieces) requests buffer

pub read_none : (a : Option (List ℕ)) (count : ℕ) (buffer : List ℕ) → count ≡ 0 → buffer ≡ [] → ReadSoFar a a count 0 buffer
read_none a count buffer none empty =
    record { pieces = []; count_is = sym none; wanted = tt; gave = Consumes-nil a; requests = []; acted_is = refl; passes = sym empty }

-- the session is over
pub read_all : (a b : Option (List ℕ)) (count acted : ℕ) (buffer : List ℕ) → ReadSoFar a b count acted buffer → IsReadWhileWanted count a b
read_all a b count acted buffer so = record { pieces = so.pieces; count_is = so.count_is; wanted = so.wanted; gave = so.gave }

-- the session is over after a wait
pub read_then : (found : Result HeadFacts Rest) (a b c : Option (List ℕ)) (count count' acted : ℕ) (buffer buffer' : List ℕ) → ReadSoFar a b count acted buffer
    → acted < 1000 → IsFetched found buffer buffer' b c count count' → IsReadWhileWanted count' a c
read_then found a b c count count' acted buffer buffer' so few fetched = record {
  pieces = so.pieces ++ fetched.pieces;
  count_is = omega (arith, length-append so.pieces fetched.pieces, so.count_is, fetched.count);
  wanted = wanted_more [] so.pieces fetched.pieces so.wanted
      (wanted_of (concat so.pieces) so.requests buffer fetched.pieces so.passes (omega (arith, so.acted_is, few)) fetched.missing);
  gave = subst (λ (l : List ℕ). Consumes a c l) (sym (concat-append so.pieces fetched.pieces))
      (Consumes-trans a b c (concat so.pieces) (concat fetched.pieces) so.gave fetched.gave);
}

-- the buffer begins with a whole request
stands_whole : (buffer : List ℕ) (f : HeadFacts) → HasHead buffer f → f.len + f.body ≤ length buffer → FindsHead buffer (Ok f)
stands_whole buffer f has fits =
    let len : length buffer ≡ length (print_request has.0) + length has.1 = ap length has.2.0.1 ∙ length-append (print_request has.0) has.1 in
    let whole : f.body ≤ length has.1 = omega (arith, len, has.3.len, fits) in
    (has.0, has.1, has.2, has.3, whole)

-- the session goes on after a request
pub read_more : (head : HeadFacts) (a b c : Option (List ℕ)) (count count' acted : ℕ) (buffer buffer' left : List ℕ) → ReadSoFar a b count acted buffer
    → acted < 1000 → IsFetched (Ok head) buffer buffer' b c count count' → HasHead buffer' head → head.len + head.body ≤ length buffer' → head.closes ≡ false
    → left ≡ drop (head.len + head.body) buffer' → ReadSoFar a c count' (acted + 1) left
unfolding read_then
read_more head a b c count count' acted buffer buffer' left so few fetched has fits open' dropped =
    let n : ℕ = head.len + head.body in
    let read = read_then (Ok head) a b c count count' acted buffer buffer' so few fetched in
    let come : concat (so.pieces ++ fetched.pieces) ≡ concat so.pieces ++ concat fetched.pieces = concat-append so.pieces fetched.pieces in
    let grown : buffer' ≡ buffer ++ concat fetched.pieces = fetched.grown in
    let parts : buffer' ≡ take n buffer' ++ left = sym (take-append-drop n buffer') ∙ ap (λ (l : List ℕ). take n buffer' ++ l) (sym dropped) in
    let passes : PassesOver (concat (so.pieces ++ fetched.pieces)) so.requests (take n buffer' ++ left) =
    subst (λ (l : List ℕ). PassesOver l so.requests (take n buffer' ++ left)) (sym come) (subst (λ (l : List ℕ). PassesOver (concat so.pieces
    ++ concat fetched.pieces) so.requests l) (sym grown ∙ parts) (passes-append (concat so.pieces) so.requests buffer (concat fetched.pieces) so.passes)) in
    record {
      pieces = so.pieces ++ fetched.pieces;
      count_is = read.count_is;
      wanted = read.wanted;
      gave = read.gave;
      requests = so.requests ++ take n buffer' ∷ [];
      acted_is = omega (arith, length_snoc so.requests (take n buffer'), so.acted_is);
      passes = passes-snoc (concat (so.pieces ++ fetched.pieces)) so.requests (take n buffer') left passes
          (front_request buffer' head false open' (stands_whole buffer' head has fits));
    }
