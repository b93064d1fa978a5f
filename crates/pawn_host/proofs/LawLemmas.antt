-- A stream can be split in only one way.
use Rattle.httparse.proofs.GrammarLemmas.{request_unique}
use Rattle.pawn_host.proofs.SplitLemmas.{length_snoc, passes-snoc}
use Rattle.pawn_host.specs.Common.{EndsInTarget, Event, HasNoRequest, HeadFault, Host, IsBadHead, Mark, ReadsHead}
use Rattle.pawn_host.specs.Common.{ReadsRequest, RequestHead, Stamp, WireFault, body_length, closes_by, concat}
use Rattle.pawn_host.specs.Common.{fields_of, most_fields, most_head, no_memory, no_store, print_request, read_as}
use Rattle.pawn_host.specs.Common.{run_host, run_replies}
use Rattle.pawn_host.specs.Laws.{AreCutAndFault, IsLeftOpen, IsOpen, MayGoOn, failure_of_mark, failures}
use Rattle.pawn_host.specs.Run.{IsMarkOf, IsMarked, Item, events, host_after_run, input_of, replies, said_text}
use Rattle.pawn_host.specs.Split.{Begins, BeginsAndGoesOn, ClosesAfter, Ending, HasFault, HasNoWhole, IsCut, IsRequest}
use Rattle.pawn_host.specs.Split.{IsWanting, PassesOver, Splits, StopsAt, at_end, at_limit, closed, cut, faulted}
use Rattle.pawn_reply.specs.declared.fault.HeadFault.TheVariants.{BadHead}
use Rattle.pawn_wire.proofs.RequestLemmas.{reads_unique}
use Rattle.pawn_wire.proofs.StreamLemmas.{bad_head_never, head_some, nil_is_no_bad_head, reads_more}
use Rattle.std.proofs.Common.{◌≡◌, ℕ, ◌+◌, ◌<◌, ◌≤◌, Bool, true, false, List, [], ◌∷◌, ◌++◌, length, take, map, ◌⊎◌}
use Rattle.std.proofs.Common.{inl, inr, refl, arith, sym, ◌∙◌, ap, subst, append_assoc, append-nil, length-append}
use Rattle.std.proofs.Common.{Result, Ok, Err, All, nat_le, take_all}
use Rattle.std.proofs.lemmas.Bool.Decides.{nat_tests}
use Rattle.std.proofs.lemmas.List.{append_cancel_left, take-append-le}
use Rattle.std.proofs.lemmas.List.Elements.{All-head, All-tail}

-- ---- prefixes

pub ok_same : (m n : ℕ) → ◌≡◌ {A = Result ℕ HeadFault} (Ok m) (Ok n) → m ≡ n
ok_same m n e = cc

ok_not_err : (m : ℕ) (f : HeadFault) → ◌≡◌ {A = Result ℕ HeadFault} (Ok m) (Err f) → ⊥
ok_not_err m f e = cc

err_same : (f g : HeadFault) → ◌≡◌ {A = Result ℕ HeadFault} (Err f) (Err g) → f ≡ g
err_same f g e = cc

not_both : true ≡ false → ⊥
not_both e = cc

cancel_by_length : (x y s t : List ℕ) → length x ≡ length y → x ++ s ≡ y ++ t → (x ≡ y) × (s ≡ t)
cancel_by_length x y s t len e =
    let a : take (length x) (x ++ s) ≡ x = take-append-le (length x) x s (omega arith) ∙ take_all (length x) x (omega arith) in
    let b : take (length x) (y ++ t) ≡ y = take-append-le (length x) y t (omega (arith, len)) ∙ take_all (length x) y (omega (arith, len)) in
    let same : x ≡ y = sym a ∙ ap (take (length x)) e ∙ b in
    (same, append_cancel_left y s t (ap (λ (l : List ℕ). l ++ s) (sym same) ∙ e))

-- two whole requests at the beginning of one stream are equal
pub fronts_same : (x y s t : List ℕ) (c d : Bool) → x ++ s ≡ y ++ t → IsRequest x c → IsRequest y d → (x ≡ y) × (s ≡ t) × (c ≡ d)
fronts_same x y s t c d e p q =
    let p' : ReadsHead (y ++ t) p.head (p.body ++ s) = subst (λ (l : List ℕ). ReadsHead l p.head (p.body ++ s)) e (reads_more x s p.head p.body p.reads) in
    let q' : ReadsHead (y ++ t) q.head (q.body ++ t) = reads_more y t q.head q.body q.reads in
    let same = request_unique (y ++ t) p.head q.head (p.body ++ s) (q.body ++ t) p'.0 q'.0 in
    let body : length p.body ≡ length q.body =
    ok_same (length p.body) (length q.body) (sym p.framed ∙ ap (λ (h : RequestHead). body_length (fields_of h)) same.0 ∙ q.framed) in
    let len : length x ≡ length y = ap length p.reads.0.1 ∙ length-append (print_request p.head) p.body
    ∙ ap (λ (h : RequestHead). length (print_request h) + length p.body) same.0 ∙ ap (λ (n : ℕ). length (print_request q.head) + n) body
    ∙ sym (length-append (print_request q.head) q.body) ∙ sym (ap length q.reads.0.1) in
    let parts = cancel_by_length x y s t len e in
    (parts.0, parts.1, p.closes_is ∙ ap (λ (h : RequestHead). closes_by h.minor (fields_of h)) same.0 ∙ sym q.closes_is)

no_head_of_nil : (h : RequestHead) (rest : List ℕ) → ReadsHead [] h rest → ⊥
no_head_of_nil h rest x = (let e = ap length x.0.1 ∙ length-append (print_request h) rest in omega (arith, e, head_some h))

-- ---- where a split stops

pub none_in_stop : (e : Ending) (n : ℕ) (rest : List ℕ) → StopsAt e n rest → n < 1000 → (r t : List ℕ) (c : Bool) → rest ≡ r ++ t → IsRequest r c → ⊥
none_in_stop e n rest stops few r t c parts q = at e stops where
  here : ReadsHead rest q.head (q.body ++ t)
  here = subst (λ (l : List ℕ). ReadsHead l q.head (q.body ++ t)) (sym parts) (reads_more r t q.head q.body q.reads)

  at : (e : Ending) → StopsAt e n rest → ⊥
  at at_end s = no_head_of_nil q.head (q.body ++ t) (subst (λ (l : List ℕ). ReadsHead l q.head (q.body ++ t)) s.1 here)
  at cut (few, inl s) = s.2 q.head (q.body ++ t) here.0
  at cut (few, inr s) =
      let same = request_unique rest s.0 q.head s.1 (q.body ++ t) s.3.0 here.0 in
      let body : s.2 ≡ length q.body = ok_same s.2 (length q.body) (sym s.4 ∙ ap (λ (h : RequestHead). body_length (fields_of h)) same.0 ∙ q.framed) in
      omega (arith, s.5, body, ap length same.1, length-append q.body t)
  at (faulted f) (few, inl s) = bad_head_never rest s.0 [] q.head ((q.body ++ t) ++ []) (reads_more rest [] q.head (q.body ++ t) here)
  at (faulted f) (few, inr s) =
      let same = request_unique rest s.0 q.head s.1 (q.body ++ t) s.2.0 here.0 in
      ok_not_err (length q.body) f (sym q.framed ∙ ap (λ (h : RequestHead). body_length (fields_of h)) (sym same.0) ∙ s.3)
  at at_limit s = omega (arith, s, few)
  at closed s = absurd s

stop_bound : (e : Ending) (n : ℕ) (rest : List ℕ) → StopsAt e n rest → n ≤ 1000
stop_bound at_end n rest s = omega (arith, s.0)
stop_bound cut n rest s = omega (arith, s.0)
stop_bound (faulted f) n rest s = omega (arith, s.0)
stop_bound at_limit n rest s = omega (arith, s)
stop_bound closed n rest s = absurd s

nil_has_no_fault : (f : HeadFault) → HasFault [] f → ⊥
nil_has_no_fault f (inl x) = nil_is_no_bad_head x.0
nil_has_no_fault f (inr x) = no_head_of_nil x.0 x.1 x.2

nil_is_not_cut : IsCut [] → ⊥
nil_is_not_cut (inl x) = x.0 refl
nil_is_not_cut (inr x) = no_head_of_nil x.0 x.1 x.3

bad_has_no_head : (rest : List ℕ) (h : RequestHead) (body : List ℕ) → IsBadHead rest → ReadsHead rest h body → ⊥
bad_has_no_head rest h body bad x = bad_head_never rest bad [] h (body ++ []) (reads_more rest [] h body x)

faults_same : (rest : List ℕ) (f g : HeadFault) → HasFault rest f → HasFault rest g → f ≡ g
faults_same rest f g (inl x) (inl y) = x.1 ∙ sym y.1
faults_same rest f g (inl x) (inr y) = absurd (bad_has_no_head rest y.0 y.1 x.0 y.2)
faults_same rest f g (inr x) (inl y) = absurd (bad_has_no_head rest x.0 x.1 y.0 x.2)
faults_same rest f g (inr x) (inr y) =
    let same = request_unique rest x.0 y.0 x.1 y.1 x.2.0 y.2.0 in
    err_same f g (sym x.3 ∙ ap (λ (h : RequestHead). body_length (fields_of h)) same.0 ∙ y.3)

cut_and_fault : (rest : List ℕ) (f : HeadFault) → IsCut rest → HasFault rest f → IsOpen rest × (f ≡ BadHead)
cut_and_fault rest f (inl x) (inl (inl over, e)) = ((x, over), e)
cut_and_fault rest f (inl x) (inl (inr full, e)) = absurd (omega (arith, x.1, full.0))
cut_and_fault rest f (inl x) (inr y) = absurd (x.2 y.0 y.1 y.2.0)
cut_and_fault rest f (inr x) (inl y) = absurd (bad_has_no_head rest x.0 x.1 y.0 x.3)
cut_and_fault rest f (inr x) (inr y) =
    let same = request_unique rest x.0 y.0 x.1 y.1 x.3.0 y.2.0 in
    absurd (ok_not_err x.2 f (sym x.4 ∙ ap (λ (h : RequestHead). body_length (fields_of h)) same.0 ∙ y.3))

pub stops_alike : (e f : Ending) (n : ℕ) (rest : List ℕ) → StopsAt e n rest → StopsAt f n rest → (e ≡ f) ⊎ (IsOpen rest × AreCutAndFault e f)
stops_alike closed f n rest x y = absurd x
stops_alike e closed n rest x y = absurd y
stops_alike at_limit at_limit n rest x y = inl refl
stops_alike at_limit at_end n rest x y = absurd (omega (arith, x, y.0))
stops_alike at_limit cut n rest x y = absurd (omega (arith, x, y.0))
stops_alike at_limit (faulted g) n rest x y = absurd (omega (arith, x, y.0))
stops_alike at_end at_limit n rest x y = absurd (omega (arith, y, x.0))
stops_alike cut at_limit n rest x y = absurd (omega (arith, y, x.0))
stops_alike (faulted g) at_limit n rest x y = absurd (omega (arith, y, x.0))
stops_alike at_end at_end n rest x y = inl refl
stops_alike at_end cut n rest x y = absurd (nil_is_not_cut (subst (λ (l : List ℕ). IsCut l) x.1 y.1))
stops_alike at_end (faulted g) n rest x y = absurd (nil_has_no_fault g (subst (λ (l : List ℕ). HasFault l g) x.1 y.1))
stops_alike cut at_end n rest x y = absurd (nil_is_not_cut (subst (λ (l : List ℕ). IsCut l) y.1 x.1))
stops_alike (faulted g) at_end n rest x y = absurd (nil_has_no_fault g (subst (λ (l : List ℕ). HasFault l g) y.1 x.1))
stops_alike cut cut n rest x y = inl refl
stops_alike cut (faulted g) n rest x y = (let k = cut_and_fault rest g x.1 y.1 in inr (k.0, inl (refl, ap faulted k.1)))
stops_alike (faulted g) cut n rest x y = (let k = cut_and_fault rest g y.1 x.1 in inr (k.0, inr (ap faulted k.1, refl)))
stops_alike (faulted f) (faulted g) n rest x y = inl (ap faulted (faults_same rest f g x.1 y.1))

-- ---- one split continues after the place where the other stops

abbrev pub GoesOn : List (List ℕ) → List ℕ → List (List ℕ) → List ℕ → Type 0
GoesOn a p b q = (more : List (List ℕ)) × (b ≡ a ++ more) × PassesOver p more q

pub aligned : (s : List ℕ) (a b : List (List ℕ)) (p q : List ℕ) → PassesOver s a p → PassesOver s b q → GoesOn a p b q ⊎ GoesOn b q a p
aligned s [] b p q x y = inl (b, refl, subst (λ (l : List ℕ). PassesOver l b q) x y)
aligned s (m ∷ a) [] p q x y = inr (m ∷ a, refl, subst (λ (l : List ℕ). PassesOver l (m ∷ a) p) y x)
aligned s (m ∷ a) (k ∷ b) p q x y =
    let same = fronts_same m k x.0 y.0 false false (sym x.1 ∙ y.1) x.2 y.2 in
    elim (aligned y.0 a b p q (subst (λ (l : List ℕ). PassesOver l a p) same.1 x.3) y.3) [
      | inl z ↦ inl (z.0, (λ i. sym same.0 i ∷ z.1 i), z.2)
      | inr z ↦ inr (z.0, (λ i. same.0 i ∷ z.1 i), z.2)
    ]

longer : (a : List (List ℕ)) (m : List ℕ) (ms b : List (List ℕ)) → b ≡ a ++ m ∷ ms → length a < length b
longer a m ms b e = omega (arith, ap length e, length-append a (m ∷ ms))

-- a split that stops is not longer than another one
stopped : (e : Ending) (a : List (List ℕ)) (p : List ℕ) (b : List (List ℕ)) (q : List ℕ) → StopsAt e (length a) p → length b ≤ 1000 → GoesOn a p b q
    → (a ≡ b) × (p ≡ q)
stopped e a p b q s few ([], is, x) = (sym (is ∙ append-nil a), x)
stopped e a p b q s few (m ∷ ms, is, x) = absurd (none_in_stop e (length a) p s (omega (arith, few, longer a m ms b is)) m x.0 false x.1 x.2)

-- a split that stops does not close
closes_or_stops : (s : List ℕ) (a b : List (List ℕ)) (e : Ending) (p : List ℕ) → PassesOver s a p → StopsAt e (length a) p → ClosesAfter s b → ⊥
closes_or_stops s a b e p x stops y = elim (aligned s a y.0 p (y.1 ++ y.2) x y.3) [
  | inl z ↦ (let same = stopped e a p y.0 (y.1 ++ y.2) stops (omega (arith, y.5)) z in
      none_in_stop e (length a) p stops (subst (λ (l : List (List ℕ)). length l < 1000) (sym same.0) y.5) y.1 y.2 true same.1 y.4)
  | inr z ↦ goes z
] where
  goes : GoesOn y.0 (y.1 ++ y.2) a p → ⊥
  goes ([], is, z) = none_in_stop e (length a) p stops (subst (λ (l : List (List ℕ)). length l < 1000) (sym (is ∙ append-nil y.0)) y.5) y.1 y.2 true (sym z) y.4
  goes (m ∷ ms, is, z) = not_both (fronts_same y.1 m y.2 z.0 true false z.1 y.4 z.2).2

closes_on : (a b : List (List ℕ)) (l k r q : List ℕ) → GoesOn a (l ++ r) b (k ++ q) → IsRequest l true → IsRequest k true → a ++ l ∷ [] ≡ b ++ k ∷ []
closes_on a b l k r q ([], is, x) p o =
    let same = fronts_same l k r q true true x p o in
    (λ i. sym (is ∙ append-nil a) i ++ same.0 i ∷ [])
closes_on a b l k r q (m ∷ ms, is, x) p o = absurd (not_both (fronts_same l m r x.0 true false x.1 p x.2).2)

closes_same : (s : List ℕ) (a b : List (List ℕ)) → ClosesAfter s a → ClosesAfter s b → a ≡ b
closes_same s a b x y = elim (aligned s x.0 y.0 (x.1 ++ x.2) (y.1 ++ y.2) x.3 y.3) [
  | inl z ↦ x.6 ∙ closes_on x.0 y.0 x.1 y.1 x.2 y.2 z x.4 y.4 ∙ sym y.6
  | inr z ↦ x.6 ∙ sym (closes_on y.0 x.0 y.1 x.1 y.2 x.2 z y.4 x.4) ∙ sym y.6
]

-- ---- the laws

pub splits_unique : (s : List ℕ) (a b : List (List ℕ)) (e f : Ending) → Splits s a e → Splits s b f → (a ≡ b) × ((e ≡ f) ⊎ IsLeftOpen s a e f)
splits_unique s a b e f (inr x) (inr y) = (closes_same s a b x.0 y.0, inl (x.1 ∙ sym y.1))
splits_unique s a b e f (inl x) (inr y) = absurd (closes_or_stops s a b e x.0 x.1 x.2 y.0)
splits_unique s a b e f (inr x) (inl y) = absurd (closes_or_stops s b a f y.0 y.1 y.2 x.0)
splits_unique s a b e f (inl x) (inl y) =
    let same : (a ≡ b) × (x.0 ≡ y.0) = elim (aligned s a b x.0 y.0 x.1 y.1) [
      | inl z ↦ stopped e a x.0 b y.0 x.2 (stop_bound f (length b) y.0 y.2) z
      | inr z ↦ (let k = stopped f b y.0 a x.0 y.2 (stop_bound e (length a) x.0 x.2) z in (sym k.0, sym k.1))
    ] in
    let y' : StopsAt f (length a) x.0 =
    subst (λ (l : List ℕ). StopsAt f (length a) l) (sym same.1) (subst (λ (l : List (List ℕ)). StopsAt f (length l) y.0) (sym same.0) y.2) in (
      same.0,
      elim (stops_alike e f (length a) x.0 x.2 y') [
        | inl k ↦ inl k
        | inr k ↦ inr (x.0, x.1, k.0, k.1)
      ],
    )

pub ambiguous_ends : (rest : List ℕ) → IsOpen rest
    → ((more : List ℕ) × (h : RequestHead) × ReadsRequest (rest ++ more) h [] × (most_fields < length h.fields)) ⊎ EndsInTarget rest
ambiguous_ends rest x = elim x.0.3 [
  | inl y ↦ inl (y.0, y.1, y.2, x.1 y.0 y.1 [] y.2)
  | inr y ↦ inr y
]

begins_stop : (s : List ℕ) (requests all : List (List ℕ)) (e : Ending) (p q : List ℕ) → PassesOver s requests p → length requests ≤ 1000 → PassesOver s all q
    → StopsAt e (length all) q → (more : List (List ℕ)) × (all ≡ requests ++ more)
begins_stop s requests all e p q x few y stops = elim (aligned s requests all p q x y) [
  | inl z ↦ (z.0, z.1)
  | inr z ↦ (let same = stopped e all q requests p stops few z in ([], same.0 ∙ sym (append-nil requests)))
]

begins_close : (s : List ℕ) (requests all : List (List ℕ)) (p : List ℕ) → PassesOver s requests p → ClosesAfter s all
    → (more : List (List ℕ)) × (all ≡ requests ++ more)
begins_close s requests all p x y = elim (aligned s requests y.0 p (y.1 ++ y.2) x y.3) [
  | inl z ↦ (z.0 ++ y.1 ∷ [], y.6 ∙ ap (λ (l : List (List ℕ)). l ++ y.1 ∷ []) z.1 ∙ append_assoc requests z.0 (y.1 ∷ []))
  | inr z ↦ back z
] where
  back : GoesOn y.0 (y.1 ++ y.2) requests p → (more : List (List ℕ)) × (all ≡ requests ++ more)
  back ([], is, z) = (y.1 ∷ [], y.6 ∙ ap (λ (l : List (List ℕ)). l ++ y.1 ∷ []) (sym (is ∙ append-nil y.0)))
  back (m ∷ ms, is, z) = absurd (not_both (fronts_same y.1 m y.2 z.0 true false z.1 y.4 z.2).2)

pub whole_requests_begin_a_split : (s : List ℕ) (requests all : List (List ℕ)) (e : Ending) → Splits s all e → Begins s requests
    → (more : List (List ℕ)) × (all ≡ requests ++ more)
whole_requests_begin_a_split s requests all e (inl y) (inl x) = begins_stop s requests all e x.0 y.0 x.1 x.2 y.1 y.2
whole_requests_begin_a_split s requests all e (inr y) (inl x) = begins_close s requests all x.0 x.1 y.0
whole_requests_begin_a_split s requests all e (inl y) (inr x) = absurd (closes_or_stops s all requests e y.0 y.1 y.2 x)
whole_requests_begin_a_split s requests all e (inr y) (inr x) = ([], closes_same s all requests y.0 x ∙ sym (append-nil requests))

begins_next : (s : List ℕ) (requests : List (List ℕ)) (next more : List ℕ) (c : Bool) → PassesOver s requests (next ++ more) → IsRequest next c
    → length requests < 1000 → Begins s (requests ++ next ∷ [])
begins_next s requests next more true p q few = inr (requests, next, more, p, q, few, refl)
begins_next s requests next more false p q few = inl (more, passes-snoc s requests next more p q, omega (arith, length_snoc requests next))

pub split_goes_on : (s : List ℕ) (requests all : List (List ℕ)) (e : Ending) → Splits s all e → BeginsAndGoesOn s requests
    → (next : List ℕ) × (more : List (List ℕ)) × (all ≡ requests ++ next ∷ more)
split_goes_on s requests all e y x =
    let k = whole_requests_begin_a_split s (requests ++ x.0 ∷ []) all e y (begins_next s requests x.0 x.1 x.2 x.3 x.4 x.5) in
    (x.0, k.0, k.1 ∙ append_assoc requests (x.0 ∷ []) k.0)

passes_front : (s : List ℕ) (requests : List (List ℕ)) (rest : List ℕ) → PassesOver s requests rest → s ≡ concat requests ++ rest
passes_front s [] rest x = x
passes_front s (r ∷ rs) rest x = x.1 ∙ ap (λ (l : List ℕ). r ++ l) (passes_front x.0 rs rest x.3) ∙ sym (append_assoc r (concat rs) rest)

concat_snoc : (rs : List (List ℕ)) (x rest : List ℕ) → concat rs ++ (x ++ rest) ≡ concat (rs ++ x ∷ []) ++ rest
concat_snoc [] x rest = ap (λ (l : List ℕ). l ++ rest) (sym (append-nil x))
concat_snoc (r ∷ rs) x rest = append_assoc r (concat rs) (x ++ rest) ∙ ap (λ (l : List ℕ). r ++ l) (concat_snoc rs x rest)
    ∙ sym (append_assoc r (concat (rs ++ x ∷ [])) rest)

pub split_is_front : (s : List ℕ) (requests : List (List ℕ)) (e : Ending) → Splits s requests e
    → (length requests ≤ 1000) × ((rest : List ℕ) × (s ≡ concat requests ++ rest))
split_is_front s requests e (inl x) = (stop_bound e (length requests) x.0 x.2, (x.0, passes_front s requests x.0 x.1))
split_is_front s requests e (inr (x, is)) = (
  omega (arith, ap length x.6, length_snoc x.0 x.1, x.5),
  (x.2, passes_front s x.0 (x.1 ++ x.2) x.3 ∙ concat_snoc x.0 x.1 x.2 ∙ ap (λ (l : List (List ℕ)). concat l ++ x.2) (sym x.6)),
)

-- ---- items

marks_same : (bytes : List ℕ) (m n : Mark WireFault) → IsMarkOf ⊥ bytes m → IsMarkOf ⊥ bytes n → failure_of_mark m ≡ failure_of_mark n → m ≡ n
marks_same bytes (read_as r) (read_as q) x y e = ap read_as (reads_unique bytes r q x.0 y.0)
marks_same bytes (read_as r) no_memory x y e = absurd cc
marks_same bytes (read_as r) no_store x y e = absurd cc
marks_same bytes no_memory (read_as q) x y e = absurd cc
marks_same bytes no_memory no_memory x y e = refl
marks_same bytes no_memory no_store x y e = absurd cc
marks_same bytes no_store (read_as q) x y e = absurd cc
marks_same bytes no_store no_memory x y e = absurd cc
marks_same bytes no_store no_store x y e = refl

pub cons_head : {A : Type 0} (x y : A) (xs ys : List A) → x ∷ xs ≡ y ∷ ys → x ≡ y
cons_head x y xs ys e = cc

pub cons_tail : {A : Type 0} (x y : A) (xs ys : List A) → x ∷ xs ≡ y ∷ ys → xs ≡ ys
cons_tail x y xs ys e = cc

pub items_unique : (a b : List Item) → All (IsMarked ⊥) a → All (IsMarked ⊥) b → map input_of a ≡ map input_of b → failures a ≡ failures b → a ≡ b
items_unique [] [] p q e f = refl
items_unique [] (y ∷ b) p q e f = absurd cc
items_unique (x ∷ a) [] p q e f = absurd cc
items_unique (x ∷ a) (y ∷ b) p q e f =
    let given : input_of x ≡ input_of y = cons_head (input_of x) (input_of y) (map input_of a) (map input_of b) e in
    let bytes : x.bytes ≡ y.bytes = ap (λ (g : Stamp × List ℕ). g.1) given in
    let mark : x.mark ≡ y.mark = marks_same y.bytes x.mark y.mark (subst (λ (l : List ℕ). IsMarkOf ⊥ l x.mark) bytes (All-head (IsMarked ⊥) x a p))
    (All-head (IsMarked ⊥) y b q) (cons_head (failure_of_mark x.mark) (failure_of_mark y.mark) (failures a) (failures b) f) in
    let rest : a ≡ b = items_unique a b (All-tail (IsMarked ⊥) x a p) (All-tail (IsMarked ⊥) y b q) (cons_tail (input_of x) (input_of y) (map input_of a)
    (map input_of b) e) (cons_tail (failure_of_mark x.mark) (failure_of_mark y.mark) (failures a) (failures b) f) in
    (λ i. record { stamp = (given i).0; bytes = bytes i; mark = mark i } ∷ rest i)

pub run_events : (h : Host) (operator : ℕ) (a b : List Item) → events a ≡ events b
    → (host_after_run h operator a ≡ host_after_run h operator b) × (replies h operator a ≡ replies h operator b)
run_events h operator a b e =
    (ap (λ (es : List (Event WireFault)). run_host h operator es) e, ap (λ (es : List (Event WireFault)). map said_text (run_replies h operator es)) e)

pub fault_is_exact : (rest : List ℕ)
    → (MayGoOn rest → HasNoRequest rest → (f : HeadFault) → HasFault rest f → ⊥) × ((MayGoOn rest → ⊥) → (length rest < most_head) → HasFault rest BadHead)
fault_is_exact rest = (never, bad) where
  never : MayGoOn rest → HasNoRequest rest → (f : HeadFault) → HasFault rest f → ⊥
  never m none f (inl (inl over, e)) = (let k = over m.1.0 m.1.1 m.1.2 m.1.3 in omega (arith, k, m.1.4))
  never m none f (inl (inr full, e)) = omega (arith, m.0, full.0)
  never m none f (inr x) = none x.0 x.1 x.2.0

  cases : (b : Bool) (h : RequestHead) → nat_le (length h.fields) most_fields ≡ b → (length h.fields ≤ most_fields → ⊥) → most_fields < length h.fields
  cases true h t no_room = absurd (no_room (grind (arith, nat_tests, t)))
  cases false h t no_room = grind (arith, nat_tests, t)

  bad : (MayGoOn rest → ⊥) → (length rest < most_head) → HasFault rest BadHead
  bad stuck short = inl (inl (λ more h r x. cases (nat_le (length h.fields) most_fields) h refl (λ few. stuck (short, (more, h, r, x, few)))), refl)

-- ---- when more bytes are wanted

-- A stream begins with the requests `a` and then `last`. It is also the requests `b` and then an incomplete rest. Then `last`
-- is one of `b`, and does not close the connection.
wants_no_more : (come : List ℕ) (a b : List (List ℕ)) (last rest tail : List ℕ) (closes : Bool) → PassesOver come a (last ++ tail) → IsRequest last closes
    → PassesOver come b rest → HasNoWhole rest → (length a < length b) × (closes ≡ false)
wants_no_more come [] [] last rest tail closes p q w none = absurd (none last tail closes (sym w ∙ p) q)
wants_no_more come [] (r ∷ rs) last rest tail closes p q w none =
    let same = fronts_same r last w.0 tail false closes (sym w.1 ∙ p) w.2 q in
    (omega arith, sym same.2)
wants_no_more come (r ∷ rs) [] last rest tail closes p q w none = absurd (none r p.0 false (sym w ∙ p.1) p.2)
wants_no_more come (r ∷ rs) (t ∷ ts) last rest tail closes p q w none =
    let same = fronts_same r t p.0 w.0 false false (sym p.1 ∙ w.1) p.2 w.2 in
    let more = wants_no_more p.0 rs ts last rest tail closes p.3 q (subst (λ (l : List ℕ). PassesOver l ts rest) (sym same.1) w.3) none in
    (omega (arith, more.0), more.1)

pub closed_wants_nothing : (come : List ℕ) (requests : List (List ℕ)) → ClosesAfter come requests → IsWanting come → ⊥
closed_wants_nothing come requests c w =
    let more = wants_no_more come c.0 w.0 c.1 w.1 c.2 true c.3 c.4 w.2 w.4 in
    not_both more.1

-- A stream begins with the requests `a`. It is also the requests `b` and then an incomplete rest. Then `b` has at least as
-- many requests.
wants_all : (come : List ℕ) (a b : List (List ℕ)) (rest tail : List ℕ) → PassesOver come a tail → PassesOver come b rest → HasNoWhole rest → length a ≤ length b
wants_all come [] b rest tail p w none = omega arith
wants_all come (r ∷ rs) [] rest tail p w none = absurd (none r p.0 false (sym w ∙ p.1) p.2)
wants_all come (r ∷ rs) (t ∷ ts) rest tail p w none =
    let same = fronts_same r t p.0 w.0 false false (sym p.1 ∙ w.1) p.2 w.2 in
    let more = wants_all p.0 rs ts rest tail p.3 (subst (λ (l : List ℕ). PassesOver l ts rest) (sym same.1) w.3) none in
    omega (arith, more)

pub full_wants_nothing : (come : List ℕ) (requests : List (List ℕ)) (rest : List ℕ) → PassesOver come requests rest → 1000 ≤ length requests → IsWanting come
    → ⊥
full_wants_nothing come requests rest p many w = omega (arith, wants_all come requests w.0 w.1 rest p w.2 w.4, many, w.3)
