-- How a split of a stream continues after the requests that were taken from it.
use Rattle.pawn_host.specs.Common.{HeadFacts, HeadFault, Keeps, ReadsHead, prepend_known, print_request}
use Rattle.pawn_host.specs.Finding.{FindsHead, FindsRest}
use Rattle.pawn_host.specs.Split.{Begins, BeginsAndGoesOn, Ending, IsRequest, IsUnderWay, PassesOver, Splits, StopsAt}
use Rattle.pawn_host.specs.Split.{at_end, at_limit, closed, cut, faulted}
use Rattle.pawn_host.specs.declared.session.Rest.TheVariants.{AtEnd, CutOff, Faulty}
use Rattle.pawn_wire.proofs.StreamLemmas.{whole_front}
use Rattle.std.proofs.Common.{◌≡◌, ℕ, suc, ◌+◌, ◌<◌, ◌≤◌, Bool, true, false, List, [], ◌∷◌, ◌++◌, length, take, drop}
use Rattle.std.proofs.Common.{inl, inr, refl, arith, Option, Some, None, sym, ◌∙◌, ap, subst, append_assoc}
use Rattle.std.proofs.Common.{length-append, length-take, IfSome, Ok, take-append-drop}
use Rattle.std.proofs.lemmas.List.{take-append-le}

pub length_snoc : (requests : List (List ℕ)) (x : List ℕ) → length (requests ++ x ∷ []) ≡ suc (length requests)
length_snoc requests x = length-append requests (x ∷ []) ∙ (omega arith)

-- the stream consists of these requests and then of what is left
abbrev pub SplitsOn : Option (List ℕ) → Option (List ℕ) → List (List ℕ) → Type 0
SplitsOn None rest requests = Unit {0}
SplitsOn (Some s) None requests = ⊥
SplitsOn (Some s) (Some r) requests = PassesOver s requests r

pub passes-snoc : (s : List ℕ) (requests : List (List ℕ)) (x rest : List ℕ) → PassesOver s requests (x ++ rest) → IsRequest x false
    → PassesOver s (requests ++ x ∷ []) rest
passes-snoc s [] x rest p q = (rest, p, q, refl)
passes-snoc s (r ∷ rs) x rest p q = (p.0, p.1, p.2, passes-snoc p.0 rs x rest p.3 q)

-- a head and its body are a request
pub front_request : (s : List ℕ) (f : HeadFacts) (closes : Bool) → f.closes ≡ closes → FindsHead s (Ok f) → IsRequest (take (f.len + f.body) s) closes
front_request s f closes c x =
    let front : ReadsHead (take (length (print_request x.0) + f.body) s) x.0 (take f.body x.1) = whole_front s x.0 x.1 f.body x.2 in
    let size : length (take f.body x.1) ≡ f.body = length-take f.body x.1 ∙ omega (arith, x.4) in
    record {
      head = x.0;
      body = take f.body x.1;
      reads = subst (λ (n : ℕ). ReadsHead (take (n + f.body) s) x.0 (take f.body x.1)) (sym x.3.len) front;
      framed = x.3.body ∙ ap Ok (sym size);
      closes_is = sym c ∙ x.3.closes;
    }

pub splits_start : (s : Option (List ℕ)) → SplitsOn s (prepend_known [] s) []
splits_start None = tt
splits_start (Some s) = refl

-- a request was taken, and the stream goes on
pub splits_more : (s rest left : Option (List ℕ)) (requests : List (List ℕ)) (buffer : List ℕ) (f : HeadFacts) → SplitsOn s rest requests
    → IfSome rest (λ r. FindsHead r (Ok f)) → f.closes ≡ false → Keeps rest (prepend_known buffer left) → f.len + f.body ≤ length buffer
    → SplitsOn s (prepend_known (drop (f.len + f.body) buffer) left) (requests ++ take (f.len + f.body) buffer ∷ [])
splits_more None rest left requests buffer f on first c k fits = tt
splits_more (Some s) None left requests buffer f on first c k fits = absurd on
splits_more (Some s) (Some r) None requests buffer f on first c k fits = absurd k
splits_more (Some s) (Some r) (Some l) requests buffer f on first c k fits =
    let n : ℕ = f.len + f.body in
    let front : take n r ≡ take n buffer = ap (take n) (sym k) ∙ take-append-le n buffer l fits in
    let parts : r ≡ take n buffer ++ (drop n buffer ++ l) = sym k ∙ ap (λ (b : List ℕ). b ++ l) (sym (take-append-drop n buffer))
    ∙ append_assoc (take n buffer) (drop n buffer) l in
    passes-snoc s requests (take n buffer) (drop n buffer ++ l)
    (subst (λ (x : List ℕ). PassesOver s requests x) parts on) (subst (λ (x : List ℕ). IsRequest x false) front (front_request r f false c first))

-- a request was taken, and the stream is closed
pub splits_closed : (s rest left : Option (List ℕ)) (requests : List (List ℕ)) (buffer : List ℕ) (f : HeadFacts) → SplitsOn s rest requests
    → IfSome rest (λ r. FindsHead r (Ok f)) → f.closes ≡ true → Keeps rest (prepend_known buffer left) → f.len + f.body ≤ length buffer → length requests < 1000
    → IfSome s (λ x. Splits x (requests ++ take (f.len + f.body) buffer ∷ []) closed)
splits_closed None rest left requests buffer f on first c k fits few = tt
splits_closed (Some s) None left requests buffer f on first c k fits few = absurd on
splits_closed (Some s) (Some r) None requests buffer f on first c k fits few = absurd k
splits_closed (Some s) (Some r) (Some l) requests buffer f on first c k fits few =
    let n : ℕ = f.len + f.body in
    let front : take n r ≡ take n buffer = ap (take n) (sym k) ∙ take-append-le n buffer l fits in
    let parts : r ≡ take n buffer ++ (drop n buffer ++ l) = sym k ∙ ap (λ (b : List ℕ). b ++ l) (sym (take-append-drop n buffer))
    ∙ append_assoc (take n buffer) (drop n buffer) l in
    inr (
      (
        requests,
        take n buffer,
        drop n buffer ++ l,
        subst (λ (x : List ℕ). PassesOver s requests x) parts on,
        subst (λ (x : List ℕ). IsRequest x true) front (front_request r f true c first),
        few,
        refl,
      ),
      refl,
    )

-- the split begins with the requests that were taken
pub splits_begin : (s rest : Option (List ℕ)) (requests : List (List ℕ)) → SplitsOn s rest requests → length requests ≤ 1000 → IfSome s (λ x. Begins x requests)
splits_begin None rest requests on few = tt
splits_begin (Some s) None requests on few = absurd on
splits_begin (Some s) (Some r) requests on few = inl (r, on, few)

closed_begins : (s : Option (List ℕ)) (requests : List (List ℕ)) → IfSome s (λ x. Splits x requests closed) → IfSome s (λ x. Begins x requests)
closed_begins None requests h = tt
closed_begins (Some s) requests (inl x) = absurd x.2
closed_begins (Some s) requests (inr x) = inr x.0

-- the request that was taken is one of the split
pub splits_begun : (s rest left : Option (List ℕ)) (requests : List (List ℕ)) (buffer : List ℕ) (f : HeadFacts) → SplitsOn s rest requests
    → IfSome rest (λ r. FindsHead r (Ok f)) → Keeps rest (prepend_known buffer left) → f.len + f.body ≤ length buffer → length requests < 1000
    → IfSome s (λ x. Begins x (requests ++ take (f.len + f.body) buffer ∷ []))
splits_begun s rest left requests buffer f on first k fits few =
    elim f.closes as (λ v. f.closes ≡ v → IfSome s (λ x. Begins x (requests ++ take (f.len + f.body) buffer ∷ []))) [
      | true ↦ λ c. closed_begins s (requests ++ take (f.len + f.body) buffer ∷ []) (splits_closed s rest left requests buffer f on first c k fits few)
      | false ↦ λ c. splits_begin s (prepend_known (drop (f.len + f.body) buffer) left) (requests ++ take (f.len + f.body) buffer ∷ [])
          (splits_more s rest left requests buffer f on first c k fits) (omega (arith, length_snoc requests (take (f.len + f.body) buffer)))
    ] refl

pub splits_goes_on : (s rest : Option (List ℕ)) (requests : List (List ℕ)) (f : HeadFacts) → SplitsOn s rest requests → IfSome rest (λ r. FindsHead r (Ok f))
    → length requests < 1000 → IfSome s (λ x. BeginsAndGoesOn x requests)
splits_goes_on None rest requests f on first few = tt
splits_goes_on (Some s) None requests f on first few = absurd on
splits_goes_on (Some s) (Some r) requests f on first few =
    let n : ℕ = f.len + f.body in
    (take n r, drop n r, f.closes, subst (λ (x : List ℕ). PassesOver s requests x) (sym (take-append-drop n r)) on, front_request r f f.closes refl first, few)

pub splits_ending : (s rest : Option (List ℕ)) (requests : List (List ℕ)) (ending : Ending) → SplitsOn s rest requests
    → IfSome rest (λ r. StopsAt ending (length requests) r) → IfSome s (λ x. Splits x requests ending)
splits_ending None rest requests ending on first = tt
splits_ending (Some s) None requests ending on first = absurd on
splits_ending (Some s) (Some r) requests ending on first = inl (r, on, first)

-- what was found in the rest ends the split
pub stops_end : (rest : Option (List ℕ)) (n : ℕ) → n < 1000 → IfSome rest (λ r. FindsRest r AtEnd) → IfSome rest (λ r. StopsAt at_end n r)
stops_end None n few x = tt
stops_end (Some r) n few x = (few, x)

pub stops_cut : (rest : Option (List ℕ)) (n : ℕ) → n < 1000 → IfSome rest (λ r. FindsRest r CutOff) → IfSome rest (λ r. StopsAt cut n r)
stops_cut None n few x = tt
stops_cut (Some r) n few x = (few, x)

pub stops_fault : (rest : Option (List ℕ)) (n : ℕ) (f : HeadFault) → n < 1000 → IfSome rest (λ r. FindsRest r (Faulty f))
    → IfSome rest (λ r. StopsAt (faulted f) n r)
stops_fault None n f few x = tt
stops_fault (Some r) n f few x = (few, x)

pub stops_limit : (rest : Option (List ℕ)) (n : ℕ) → n ≡ 1000 → IfSome rest (λ r. StopsAt at_limit n r)
stops_limit None n many = tt
stops_limit (Some r) n many = many

-- more may be taken after the requests that were taken
pub splits_under_way : (s rest : Option (List ℕ)) (requests : List (List ℕ)) → SplitsOn s rest requests → length requests < 1000
    → IfSome s (λ x. IsUnderWay x requests)
splits_under_way None rest requests on few = tt
splits_under_way (Some s) None requests on few = absurd on
splits_under_way (Some s) (Some r) requests on few = (r, on, few)
