-- A text has one reading.
use Rattle.csv.specs.declared.parser.Config.{Config}
use Rattle.pawn_csv.proofs.Basics.{◌≡◌, ◌≢◌, ◌⊎◌, ◌∙◌, ◌++◌, ◌∷◌, ◌+◌, ◌<◌, ◌≤◌, [], ℕ, Bool, true, false, List, length}
use Rattle.pawn_csv.proofs.Basics.{Option, Some, None, Result, Ok, Err, refl, sym, ap, subst, inl, inr, arith, nat_le}
use Rattle.pawn_csv.proofs.Basics.{map, nat_eq, append-nil, nat_tests}
use Rattle.pawn_csv.proofs.OneSpelling.{one_row}
use Rattle.pawn_csv.proofs.TakenLemmas.{texts_are_read_as}
use Rattle.pawn_csv.specs.Common.{BookRows, Each, Reached, Read, State, default_config, next_record}
use Rattle.pawn_csv.specs.Finishing.{IsBegunOf, IsFinishedAs, IsOfNoBook}
use Rattle.pawn_csv.specs.Laws.{FirstFaultsAreOne, FirstFaultsExcludeBooks}
use Rattle.pawn_csv.specs.Order.{Begun, is_whole, accept, run, then_run}
use Rattle.pawn_csv.specs.Reading.{AreTaken, EndsReadingAs, IsFirstCause, IsNoRow, IsReadAs, IsRowRefused, RefusesEnd}
use Rattle.pawn_csv.specs.Reading.{RefusesRow, Taking}
use Rattle.pawn_csv.specs.Rows.{FitsColumns, header, row_fields}
use Rattle.pawn_csv.specs.Types.{Cause, Row}

-- records that were reached

same_read : (p q : Read) (o : Option Read) → o ≡ Some p → o ≡ Some q → p ≡ q
same_read p q o a b = let e = sym a ∙ b in cc

no_read : (p : Read) (o : Option Read) → o ≡ None → o ≡ Some p → ⊥
no_read p o a b = let e = sym a ∙ b in cc

-- if two lists of records were reached, the longer one begins with the shorter one
pub reached_on : (cfg : Config) (fronts bs : List (List (List ℕ))) (s : State) (xs : List ℕ) (s2 : State) (ys : List ℕ) (s3 : State) (zs : List ℕ)
    → Reached cfg s xs fronts s2 ys → Reached cfg s xs bs s3 zs → length fronts ≤ length bs
    → (more : List (List (List ℕ))) × (fronts ++ more ≡ bs) × Reached cfg s2 ys more s3 zs
unfolding Reached
reached_on cfg [] bs s xs s2 ys s3 zs a b short = (bs, refl, rw (a.0, a.1) at b)
reached_on cfg (f ∷ fronts) [] s xs s2 ys s3 zs a b short = absurd (omega (arith, short))
reached_on cfg (f ∷ fronts) (r ∷ bs) s xs s2 ys s3 zs a b short =
    let same = same_read a.0 b.0 _ a.1 b.1 in
    let (more, whole, on) =
    reached_on cfg fronts bs a.0.1 a.0.2 s2 ys s3 zs a.3 (subst (λ (q : Read). Reached cfg q.1 q.2 bs s3 zs) (sym same) b.3) (omega (arith, short)) in
    (more, ap (λ x. x ∷ (fronts ++ more)) (a.2 ∙ ap (λ (q : Read). q.0) same ∙ sym b.2) ∙ ap (λ xs. r ∷ xs) whole, on)

-- the first of the records that follow
next_of : (cfg : Config) (s : State) (xs : List ℕ) (x : List (List ℕ)) (more : List (List (List ℕ))) (s2 : State) (ys : List ℕ)
    → Reached cfg s xs (x ∷ more) s2 ys → (p : Read) × (next_record cfg s [] [] xs ≡ Some p) × (x ≡ p.0)
unfolding Reached
next_of cfg s xs x more s2 ys a = (a.0, a.1, a.2)

ended : (cfg : Config) (s : State) (xs : List ℕ) (s2 : State) (ys : List ℕ) → Reached cfg s xs [] s2 ys → (s ≡ s2) × (xs ≡ ys)
unfolding Reached
ended cfg s xs s2 ys a = a

-- rows of records

same_rows : (rs ss : List Row) → Each FitsColumns rs → Each FitsColumns ss → map row_fields rs ≡ map row_fields ss → rs ≡ ss
same_rows [] [] hr hs e = refl
same_rows [] (s ∷ ss) hr hs e = absurd (omega (arith, ap length e))
same_rows (r ∷ rs) [] hr hs e = absurd (omega (arith, ap length e))
same_rows (r ∷ rs) (s ∷ ss) hr hs e =
    let parts = (let first : row_fields r ≡ row_fields s = cc in first) in
    let rest : map row_fields rs ≡ map row_fields ss = cc in
    ap (λ (x : Row). x ∷ rs) (one_row r s hr.0 hs.0 parts) ∙ ap (λ (xs : List Row). s ∷ xs) (same_rows rs ss hr.1 hs.1 rest)

same_begun : (s t : Option Begun) (o : Result (Option Begun) Cause) → o ≡ Ok s → o ≡ Ok t → s ≡ t
same_begun s t o a b = let e = sym a ∙ b in cc

-- the same records lead to the same state
pub taken_same : (before : List (List (List ℕ))) (rows others : List Row) (s t : Option Begun) → AreTaken before rows s → AreTaken before others t → s ≡ t
taken_same [] rows others s t a b = a.1 ∙ sym b.1
taken_same (h ∷ rs) rows others s t a b =
    let same = same_rows rows others a.2 b.2 (sym a.1 ∙ b.1) in
    same_begun s t (run None rows) a.3 (subst (λ (xs : List Row). run None xs ≡ Ok t) (sym same) b.3)

-- a row has fifteen columns
fifteen : (r : Row) → length (row_fields r) ≡ length header
fifteen (Row.Book version terms pledges) = refl
fifteen r = refl

same_answer : (o : Result Begun Cause) (c d : Cause) → o ≡ Err c → o ≡ Err d → c ≡ d
same_answer o c d a b = let e = sym a ∙ b in cc

no_answer : (o : Result Begun Cause) (b : Begun) (c : Cause) → o ≡ Ok b → o ≡ Err c → ⊥
no_answer o b c a e = let x = sym a ∙ e in cc

-- columns are refused for only one cause
one_refusal : (fields : List (List ℕ)) (s : Option Begun) (c d : Cause) → IsRowRefused fields s c → IsRowRefused fields s d → c ≡ d
one_refusal fields s c d a b =
    let same = one_row a.0 b.0 a.1.0 b.1.0 (sym a.1.1 ∙ b.1.1) in
    same_answer (accept s a.0) c d a.2 (subst (λ (r : Row). accept s r ≡ Err d) (sym same) b.2)

-- columns of an accepted row are not refused
no_refusal : (fields : List (List ℕ)) (s : Option Begun) (r : Row) (b : Begun) (c : Cause) → FitsColumns r → fields ≡ row_fields r → accept s r ≡ Ok b
    → IsRowRefused fields s c → ⊥
no_refusal fields s r b c fits spelled placed a =
    let same = one_row r a.0 fits a.1.0 (sym spelled ∙ a.1.1) in
    no_answer (accept s a.0) b c (subst (λ (x : Row). accept s x ≡ Ok b) same placed) a.2

-- columns that were accepted are refused for no cause
not_taken : (x : List (List ℕ)) (s : Option Begun) (r : Row) (u : Begun) → FitsColumns r → x ≡ row_fields r → accept s r ≡ Ok u → (e : Cause) → e ≢ Cause.Memory
    → RefusesRow x s e → ⊥
not_taken x s r u fits spelled placed e other (inl memory) = other memory
not_taken x s r u fits spelled placed e other (inr (inl few)) = few.1 (ap length spelled ∙ fifteen r)
not_taken x s r u fits spelled placed e other (inr (inr (inl none))) = none.2 r fits spelled
not_taken x s r u fits spelled placed e other (inr (inr (inr refusal))) = no_refusal x s r u e fits spelled placed refusal

-- if rows were accepted, the first one was, and the others were accepted after it
run_first : (from : Option Begun) (r : Row) (later : List Row) (t : Option Begun) (o : Result Begun Cause) → accept from r ≡ o
    → then_run o (λ v. run v later) ≡ Ok t → (u : Begun) × (accept from r ≡ Ok u) × (run (Some u) later ≡ Ok t)
run_first from r later t (Ok u) is ran = (u, is, ran)
run_first from r later t (Err e) is ran = absurd cc

head_is : (r : Row) (rs : List Row) (f : List (List ℕ)) (fs : List (List (List ℕ))) → map row_fields (r ∷ rs) ≡ f ∷ fs → row_fields r ≡ f
head_is r rs f fs e = cc

tail_is : (r : Row) (rs : List Row) (f : List (List ℕ)) (fs : List (List (List ℕ))) → map row_fields (r ∷ rs) ≡ f ∷ fs → map row_fields rs ≡ fs
tail_is r rs f fs e = cc

-- a record that is accepted together with the records before it is not refused after them
taken_after : (x : List (List ℕ)) (more fs : List (List (List ℕ))) (front whole : List Row) (from s t : Option Begun) (c : Cause) → c ≢ Cause.Memory
    → map row_fields front ≡ fs → Each FitsColumns front → run from front ≡ Ok s
    → map row_fields whole ≡ fs ++ x ∷ more → Each FitsColumns whole → run from whole ≡ Ok t → RefusesRow x s c → ⊥
taken_after x more [] [] [] from s t c why e fits ran e2 fits2 ran2 refused = absurd (omega (arith, ap length e2))
taken_after x more [] [] (w ∷ ws) from s t c why e fits ran e2 fits2 ran2 refused =
    let here : from ≡ s = cc in
    let (u, placed, on) = run_first from w ws t (accept from w) refl ran2 in
    not_taken x s w u fits2.0 (sym (head_is w ws x more e2)) (subst (λ (v : Option Begun). accept v w ≡ Ok u) here placed) c why refused
taken_after x more [] (g ∷ gs) whole from s t c why e fits ran e2 fits2 ran2 refused = absurd (omega (arith, ap length e))
taken_after x more (f ∷ fs) [] whole from s t c why e fits ran e2 fits2 ran2 refused = absurd (omega (arith, ap length e))
taken_after x more (f ∷ fs) (g ∷ gs) [] from s t c why e fits ran e2 fits2 ran2 refused = absurd (omega (arith, ap length e2))
taken_after x more (f ∷ fs) (g ∷ gs) (w ∷ ws) from s t c why e fits ran e2 fits2 ran2 refused =
    let same = one_row g w fits.0 fits2.0 (head_is g gs f fs e ∙ sym (head_is w ws f (fs ++ x ∷ more) e2)) in
    let (u, placed, on) = run_first from g gs s (accept from g) refl ran in
    let (v, placed2, on2) = run_first from w ws t (accept from w) refl ran2 in
    let one : u ≡ v = (let a = subst (λ (r : Row). accept from r ≡ Ok u) same placed in let b = sym a ∙ placed2 in cc) in
    taken_after x more fs gs ws (Some u) s t c why (tail_is g gs f fs e) fits.1 on (tail_is w ws f (fs ++ x ∷ more) e2) fits2.1
    (subst (λ (b : Begun). run (Some b) ws ≡ Ok t) (sym one) on2) refused

taken_next : (before : List (List (List ℕ))) (x : List (List ℕ)) (more : List (List (List ℕ))) (rows others : List Row) (s t : Option Begun) (c : Cause)
    → c ≢ Cause.Memory → AreTaken before rows s → AreTaken (before ++ x ∷ more) others t
    → Taking (nat_eq (length before) 0) x s (let r : Result (Unit {0}) Cause = Err c in r) s → ⊥
taken_next [] x more rows others s t c why a b refused = refused.0 b.0
taken_next (h ∷ rs) x more rows others s t c why a b refused =
    let later : nat_eq (length (h ∷ rs)) 0 ≡ false = grind (arith, nat_tests) in
    taken_after x more rs rows others None s t c why (sym a.1) a.2 a.3 (sym b.1) b.2 b.3
    (subst (λ (v : Bool). Taking v x s (let r : Result (Unit {0}) Cause = Err c in r) s) later refused)

-- why no record after those that were accepted is accepted
abbrev pub Stops : List (List (List ℕ)) → State → List ℕ → Option Begun → Cause → Type 0
Stops before state rest s c = ((p : Read) × (next_record default_config state [] [] rest ≡ Some p) × Taking (nat_eq (length before) 0) p.0 s
    (let r : Result (Unit {0}) Cause = Err c in r) s) ⊎ ((next_record default_config state [] [] rest ≡ None) × EndsReadingAs before s c)

-- where they stop, every other reading stops too
goes_on : (before : List (List (List ℕ))) (x : List (List ℕ)) (more : List (List (List ℕ))) (rows others : List Row) (s t : Option Begun) (c : Cause)
    (state : State) (rest : List ℕ) (s2 : State) (ys : List ℕ) → c ≢ Cause.Memory → AreTaken before rows s → AreTaken (before ++ x ∷ more) others t
    → Reached default_config state rest (x ∷ more) s2 ys → Stops before state rest s c → ⊥
goes_on before x more rows others s t c state rest s2 ys why taken taken2 on (inl w) =
    let (p, next, is) = next_of default_config state rest x more s2 ys on in
    let same = same_read w.0 p _ w.1 next in
    taken_next before x more rows others s t c why taken taken2 (subst (λ (q : List (List ℕ)). Taking (nat_eq (length before) 0) q s
    (let r : Result (Unit {0}) Cause = Err c in r) s) (ap (λ (q : Read). q.0) same ∙ sym is) w.2)
goes_on before x more rows others s t c state rest s2 ys why taken taken2 on (inr w) =
    let (p, next, is) = next_of default_config state rest x more s2 ys on in no_read p _ w.0 next

-- why columns are refused: they are too few or too many, they spell no row, or their row is refused
abbrev pub Verdict : List (List ℕ) → Option Begun → Cause → Type 0
Verdict x s e = ((e ≡ Cause.Csv) × (length x ≢ length header)) ⊎ (((e ≡ Cause.BadField) × (length x ≡ length header) × IsNoRow x) ⊎ IsRowRefused x s e)

verdict_of : (x : List (List ℕ)) (s : Option Begun) (e : Cause) → e ≢ Cause.Memory → RefusesRow x s e → Verdict x s e
verdict_of x s e other (inl memory) = absurd (other memory)
verdict_of x s e other (inr verdict) = verdict

one_verdict : (x : List (List ℕ)) (s : Option Begun) (c d : Cause) → Verdict x s c → Verdict x s d → c ≡ d
one_verdict x s c d (inl a) (inl b) = a.0 ∙ sym b.0
one_verdict x s c d (inl a) (inr (inl b)) = absurd (a.1 b.1)
one_verdict x s c d (inl a) (inr (inr b)) = absurd (a.1 (ap length b.1.1 ∙ fifteen b.0))
one_verdict x s c d (inr (inl a)) (inl b) = absurd (b.1 a.1)
one_verdict x s c d (inr (inl a)) (inr (inl b)) = a.0 ∙ sym b.0
one_verdict x s c d (inr (inl a)) (inr (inr b)) = absurd (a.2 b.0 b.1.0 b.1.1)
one_verdict x s c d (inr (inr a)) (inl b) = absurd (b.1 (ap length a.1.1 ∙ fifteen a.0))
one_verdict x s c d (inr (inr a)) (inr (inl b)) = absurd (b.2 a.0 a.1.0 a.1.1)
one_verdict x s c d (inr (inr a)) (inr (inr b)) = one_refusal x s c d a b

one_taking : (first : Bool) (x : List (List ℕ)) (s : Option Begun) (c d : Cause) → c ≢ Cause.Memory → d ≢ Cause.Memory
    → Taking first x s (let r : Result (Unit {0}) Cause = Err c in r) s → Taking first x s (let r : Result (Unit {0}) Cause = Err d in r) s → c ≡ d
one_taking true x s c d hc hd a b = a.1 ∙ sym b.1
one_taking false x s c d hc hd a b = one_verdict x s c d (verdict_of x s c hc a) (verdict_of x s d hd b)

-- why the end is refused: rows are missing, or they are those of no book
end_of : (s : Option Begun) (e : Cause) → e ≢ Cause.Memory → RefusesEnd s e
    → ((e ≡ Cause.Order) × (is_whole s ≡ false)) ⊎ ((e ≡ Cause.NotReplayable) × IsOfNoBook s)
end_of s Cause.Order other says = inl (refl, says)
end_of s Cause.NotReplayable other says = inr (refl, says)
end_of s Cause.Memory other says = absurd (other refl)
end_of s e other says = absurd says

whole_or_not : (v : Bool) → v ≡ false → v ≡ true → ⊥
whole_or_not v a b = let e = sym a ∙ b in cc

one_end : (before : List (List (List ℕ))) (s : Option Begun) (c d : Cause) → c ≢ Cause.Memory → d ≢ Cause.Memory → EndsReadingAs before s c
    → EndsReadingAs before s d → c ≡ d
one_end [] s c d hc hd a b = a ∙ sym b
one_end (h ∷ rs) s c d hc hd a b = from (end_of s c hc a) (end_of s d hd b) where
  from : ((c ≡ Cause.Order) × (is_whole s ≡ false)) ⊎ ((c ≡ Cause.NotReplayable) × IsOfNoBook s)
      → ((d ≡ Cause.Order) × (is_whole s ≡ false)) ⊎ ((d ≡ Cause.NotReplayable) × IsOfNoBook s) → c ≡ d
  from (inl x) (inl y) = x.0 ∙ sym y.0
  from (inl x) (inr y) = absurd (whole_or_not (is_whole s) x.1 y.1.2)
  from (inr x) (inl y) = absurd (whole_or_not (is_whole s) y.1 x.1.2)
  from (inr x) (inr y) = x.0 ∙ sym y.0

-- they stop for only one cause
one_stop : (before : List (List (List ℕ))) (state : State) (rest : List ℕ) (s : Option Begun) (c d : Cause) → c ≢ Cause.Memory → d ≢ Cause.Memory
    → Stops before state rest s c → Stops before state rest s d → c ≡ d
one_stop before state rest s c d hc hd (inl a) (inl b) =
    let same = same_read b.0 a.0 _ b.1 a.1 in
    one_taking (nat_eq (length before) 0) a.0.0 s c d hc hd a.2
    (subst (λ (q : Read). Taking (nat_eq (length before) 0) q.0 s (let r : Result (Unit {0}) Cause = Err d in r) s) same b.2)
one_stop before state rest s c d hc hd (inl a) (inr b) = absurd (no_read a.0 _ b.0 a.1)
one_stop before state rest s c d hc hd (inr a) (inl b) = absurd (no_read b.0 _ a.0 b.1)
one_stop before state rest s c d hc hd (inr a) (inr b) = one_end before s c d hc hd a.1 b.1

-- of the readings up to two first faults, one would continue the other, but nothing follows a fault
no_longer : (text : List ℕ) (c d : Cause) (m n : ℕ) (f : IsFirstCause text c m) (g : IsFirstCause text d n) → c ≢ Cause.Memory
    → (more : List (List (List ℕ))) → f.at.before ++ more ≡ g.at.before → Reached default_config f.at.state f.at.rest more g.at.state g.at.rest → more ≡ []
no_longer text c d m n f g why [] whole on = refl
no_longer text c d m n f g why (x ∷ more) whole on =
    absurd (goes_on f.at.before x more f.at.rows g.at.rows f.at.begun g.at.begun c f.at.state f.at.rest g.at.state g.at.rest why f.at.taken
    (subst (λ (b : List (List (List ℕ))). AreTaken b g.at.rows g.at.begun) (sym whole) g.at.taken) on f.why)

-- a reading that is at least as long has the same cause and the same row
same_fault : (text : List ℕ) (c d : Cause) (m n : ℕ) (f : IsFirstCause text c m) (g : IsFirstCause text d n) → c ≢ Cause.Memory → d ≢ Cause.Memory
    → length f.at.before ≤ length g.at.before → (c ≡ d) × (m ≡ n)
same_fault text c d m n f g hc hd short =
    let (more, whole, on) =
    reached_on default_config f.at.before g.at.before State.StartRecord text f.at.state f.at.rest g.at.state g.at.rest f.at.reached g.at.reached short in
    let none = no_longer text c d m n f g hc more whole on in
    let same : f.at.before ≡ g.at.before = sym (append-nil f.at.before) ∙ ap (λ (b : List (List (List ℕ))). f.at.before ++ b) (sym none) ∙ whole in
    let (states, rests) = ended default_config f.at.state f.at.rest g.at.state g.at.rest
    (subst (λ (b : List (List (List ℕ))). Reached default_config f.at.state f.at.rest b g.at.state g.at.rest) none on) in
    let taken = subst (λ (b : List (List (List ℕ))). AreTaken b g.at.rows g.at.begun) (sym same) g.at.taken in
    let begun = taken_same f.at.before f.at.rows g.at.rows f.at.begun g.at.begun f.at.taken taken in
    let there : Stops f.at.before f.at.state f.at.rest f.at.begun d = rw (same, states, rests, begun) g.why in
    (one_stop f.at.before f.at.state f.at.rest f.at.begun c d hc hd f.why there, omega (arith, f.at.place, g.at.place, ap length same))

pub first_faults_are_one : FirstFaultsAreOne
first_faults_are_one text c d m n hc hd f g = from (nat_le (length f.at.before) (length g.at.before)) refl where
  from : (v : Bool) → nat_le (length f.at.before) (length g.at.before) ≡ v → (c ≡ d) × (m ≡ n)
  from true is = same_fault text c d m n f g hc hd (grind (arith, nat_tests, is))
  from false is = let same = same_fault text d c n m g f hd hc (grind (arith, nat_tests, is)) in (sym same.0, sym same.1)

-- a text that is read to its end has no fault
no_fault_in : (text : List ℕ) (c : Cause) (m : ℕ) (k : BookRows) (f : IsFirstCause text c m) (records : List (List (List ℕ))) (rows : List Row)
    (s : Option Begun) (s2 : State) (ys : List ℕ) → c ≢ Cause.Memory → Reached default_config State.StartRecord text records s2 ys
    → next_record default_config s2 [] [] ys ≡ None → AreTaken records rows s → IsFinishedAs s k
    → (more : List (List (List ℕ))) → f.at.before ++ more ≡ records → Reached default_config f.at.state f.at.rest more s2 ys → ⊥
no_fault_in text c m k f records rows s s2 ys hc all none taken finished (x ∷ more) whole on =
    goes_on f.at.before x more f.at.rows rows f.at.begun s c f.at.state f.at.rest s2 ys hc f.at.taken
    (subst (λ (b : List (List (List ℕ))). AreTaken b rows s) (sym whole) taken) on f.why
no_fault_in text c m k f records rows s s2 ys hc all none taken finished [] whole on = from f.why where
  same : f.at.before ≡ records
  same = sym (append-nil f.at.before) ∙ whole

  begun : f.at.begun ≡ s
  begun = taken_same f.at.before f.at.rows rows f.at.begun s f.at.taken (subst (λ (b : List (List (List ℕ))). AreTaken b rows s) (sym same) taken)

  ends : (e : Option Begun) → e ≡ s → ((c ≡ Cause.Order) × (is_whole e ≡ false)) ⊎ ((c ≡ Cause.NotReplayable) × IsOfNoBook e) → ⊥
  ends e is (inl x) = whole_or_not (is_whole s) (subst (λ (o : Option Begun). is_whole o ≡ false) is x.1) finished.2
  ends e is (inr x) =
      let b : x.1.0 ≡ finished.0 = (let a = sym x.1.1 ∙ is ∙ finished.1 in cc) in
      x.1.3 k (subst (λ (v : Begun). IsBegunOf v k) (sym b) finished.3) finished.4

  at_end : (before : List (List (List ℕ))) → before ≡ records → EndsReadingAs before f.at.begun c → ⊥
  at_end [] is e = empty records is taken where
    empty : (rs : List (List (List ℕ))) → [] ≡ rs → AreTaken rs rows s → ⊥
    empty [] is a = let e = sym a.1 ∙ finished.1 in cc
    empty (r ∷ rs) is a = absurd (omega (arith, ap length is))
  at_end (h ∷ rs) is e = ends f.at.begun begun (end_of f.at.begun c hc e)

  from : Stops f.at.before f.at.state f.at.rest f.at.begun c → ⊥
  from (inl w) =
      let (states, rests) = ended default_config f.at.state f.at.rest s2 ys on in
      no_read w.0 _ (rw (states, rests) none) w.1
  from (inr w) = at_end f.at.before same w.1

-- nothing follows the end
pub no_further : (state : State) (rest : List ℕ) (more : List (List (List ℕ))) (s2 : State) (ys : List ℕ)
    → next_record default_config state [] [] rest ≡ None → Reached default_config state rest more s2 ys → more ≡ []
no_further state rest [] s2 ys none on = refl
no_further state rest (x ∷ more) s2 ys none on = let (p, next, is) = next_of default_config state rest x more s2 ys on in absurd (no_read p _ none next)

-- a text with a first fault is read as no book
no_reading : (text : List ℕ) (c : Cause) (m : ℕ) (k : BookRows) → c ≢ Cause.Memory → IsFirstCause text c m → IsReadAs text k → ⊥
no_reading text c m k hc f read = from (nat_le (length f.at.before) (length read.0)) refl where
  from : (v : Bool) → nat_le (length f.at.before) (length read.0) ≡ v → ⊥
  from true is =
      let (more, whole, on) = reached_on default_config f.at.before read.0 State.StartRecord text f.at.state f.at.rest read.3.0 read.3.1 f.at.reached read.3.2
      (grind (arith, nat_tests, is)) in
      no_fault_in text c m k f read.0 read.1 read.2 read.3.0 read.3.1 hc read.3.2 read.3.3 read.4 read.5 more whole on
  from false is =
      let (more, whole, on) = reached_on default_config read.0 f.at.before State.StartRecord text read.3.0 read.3.1 f.at.state f.at.rest read.3.2 f.at.reached
      (grind (arith, nat_tests, is)) in
      let none = no_further read.3.0 read.3.1 more f.at.state f.at.rest read.3.3 on in
      let same : read.0 ≡ f.at.before = sym (append-nil read.0) ∙ ap (λ (b : List (List (List ℕ))). read.0 ++ b) (sym none) ∙ whole in
      let longer : length f.at.before < length read.0 + 1 = omega (arith, ap length same) in
      let short : length read.0 < length f.at.before = grind (arith, nat_tests, is) in
      absurd (omega (arith, short, ap length same))

pub first_faults_exclude_books : FirstFaultsExcludeBooks
first_faults_exclude_books text c m k hc f is = no_reading text c m k hc f (texts_are_read_as text k is)
