-- The records of pledges whose rows have been read.
use Rattle.pawn_csv.proofs.Basics.{◌≡◌, ℕ, List, [], ◌∷◌, ◌++◌, map, Option, None, Some, Result, Ok, Err, true, sym}
use Rattle.pawn_csv.proofs.Basics.{◌∙◌, subst, refl, ap, IfErr, IfNone, IfOk, IfSome}
use Rattle.pawn_csv.specs.Common.{AreReplayable, BookRows, Closing, Each, IsUnder, PledgeValue, Rates, terms_at}
use Rattle.pawn_csv.specs.Finishing.{AreRawOf, Ends, IsBegunOf, IsRawOf, IsRefusedAs, raw_of}
use Rattle.pawn_csv.specs.Order.{Begun, is_whole}
use Rattle.pawn_csv.specs.Rows.{closing_amount, closing_day, closing_word}
use Rattle.pawn_csv.specs.Types.{Cause, RawPledge}

same_first : (x y : RawPledge) (xs ys : List RawPledge) → x ∷ xs ≡ y ∷ ys → x ≡ y
same_first x y xs ys e = cc

same_rest : (x y : RawPledge) (xs ys : List RawPledge) → x ∷ xs ≡ y ∷ ys → xs ≡ ys
same_rest x y xs ys e = cc

no_list : (x : RawPledge) (xs : List RawPledge) → x ∷ xs ≡ [] → ⊥
no_list x xs e = cc

-- if one of them is `None`, there is no list of them all
pub no_parts : (terms : List Rates) (done : List RawPledge) (raw : RawPledge) (rest : List RawPledge) (pledges : List PledgeValue)
    → ((p : PledgeValue) → IsRawOf terms raw p → ⊥) → AreRawOf terms (done ++ raw ∷ rest) pledges → ⊥
no_parts terms [] raw rest [] none h = no_list raw rest h.0
no_parts terms [] raw rest (p ∷ ps) none h = none p (same_first raw (raw_of p) rest (map raw_of ps) h.0, h.1.0, h.2.0)
no_parts terms (d ∷ done) raw rest [] none h = no_list d (done ++ raw ∷ rest) h.0
no_parts terms (d ∷ done) raw rest (p ∷ ps) none h =
    no_parts terms done raw rest ps none (same_rest d (raw_of p) (done ++ raw ∷ rest) (map raw_of ps) h.0, h.1.1, h.2.1)

-- columns state at most one closing
pub same_closing : (a b : Closing) → closing_word a ≡ closing_word b → closing_day a ≡ closing_day b → closing_amount a ≡ closing_amount b → a ≡ b
same_closing Closing.Open Closing.Open w d m = refl
same_closing (Closing.Redeemed x y) (Closing.Redeemed u v) w d m = cc
same_closing (Closing.Sold x y) (Closing.Sold u v) w d m = cc
same_closing a b w d m = cc

pub same_rates : (terms : List Rates) (v w : ℕ) (a b : Rates) → v ≡ w → terms_at terms v ≡ Some a → terms_at terms w ≡ Some b → a ≡ b
same_rates terms v w a b same x y = let e = sym x ∙ ap (terms_at terms) same ∙ y in cc

same_record : (p q : PledgeValue) → p.agreement.number ≡ q.agreement.number → p.agreement.opening ≡ q.agreement.opening → p.agreement.taken ≡ q.agreement.taken
    → p.agreement.version ≡ q.agreement.version → p.agreement.terms ≡ q.agreement.terms → p.entries ≡ q.entries → p.secrets ≡ q.secrets
    → p.extensions ≡ q.extensions → p.standing.held ≡ q.standing.held → p.standing.booking ≡ q.standing.booking → p.standing.last ≡ q.standing.last
    → p.standing.closing ≡ q.standing.closing → p ≡ q
same_record p q a b c d e f g h i j k l = rw (a, b, c, d, e, f, g, h, i, j, k, l) refl

-- rows and terms determine at most one pledge
same_pledge : (terms : List Rates) (p q : PledgeValue) → raw_of p ≡ raw_of q → IsUnder terms p → IsUnder terms q → p ≡ q
same_pledge terms p q e u v =
    let version = ap (λ (r : RawPledge). r.columns.version) e in
    same_record p q (ap (λ (r : RawPledge). r.columns.number) e) (ap (λ (r : RawPledge). r.columns.opening) e) (ap (λ (r : RawPledge). r.columns.taken) e)
    version (same_rates terms p.agreement.version q.agreement.version p.agreement.terms q.agreement.terms version u v)
    (ap (λ (r : RawPledge). r.entries) e) (ap (λ (r : RawPledge). r.secrets) e) (ap (λ (r : RawPledge). r.extensions) e) (ap (λ (r : RawPledge). r.columns.held)
    e) (ap (λ (r : RawPledge). r.booking) e) (ap (λ (r : RawPledge). r.columns.last) e) (same_closing p.standing.closing q.standing.closing
    (ap (λ (r : RawPledge). r.columns.closing) e) (ap (λ (r : RawPledge). r.columns.closing_day) e) (ap (λ (r : RawPledge). r.columns.amount) e))

no_tail : (p : PledgeValue) (ps : List PledgeValue) → map raw_of (p ∷ ps) ≡ map raw_of [] → ⊥
no_tail p ps e = cc

same_pledges : (terms : List Rates) (ps qs : List PledgeValue) → map raw_of ps ≡ map raw_of qs → Each (IsUnder terms) ps → Each (IsUnder terms) qs → ps ≡ qs
same_pledges terms [] [] e u v = refl
same_pledges terms [] (q ∷ qs) e u v = absurd (no_tail q qs (sym e))
same_pledges terms (p ∷ ps) [] e u v = absurd (no_tail p ps e)
same_pledges terms (p ∷ ps) (q ∷ qs) e u v =
    let first = same_pledge terms p q (same_first (raw_of p) (raw_of q) (map raw_of ps) (map raw_of qs) e) u.0 v.0 in
    let rest = same_pledges terms ps qs (same_rest (raw_of p) (raw_of q) (map raw_of ps) (map raw_of qs) e) u.1 v.1 in
    rw (first, rest) refl

-- at most one book is read
pub one_book : (b : Begun) (j k : BookRows) → IsBegunOf b j → IsBegunOf b k → AreReplayable j.terms j.pledges → AreReplayable k.terms k.pledges
one_book b j k x y h =
    let terms = sym x.0 ∙ y.0 in
    let pledges = same_pledges b.terms j.pledges k.pledges (sym x.1.0 ∙ y.1.0) x.1.1 y.1.1 in
    subst (λ (ts : List Rates). AreReplayable ts k.pledges) terms (subst (λ (ps : List PledgeValue). AreReplayable j.terms ps) pledges h)

-- the result for rows that are complete
pub ends : (b : Begun) (rows : Option BookRows) (res : Result BookRows Cause) → is_whole (Some b) ≡ true
    → IfSome rows (IsBegunOf b) → IfNone rows ((k : BookRows) → IsBegunOf b k → ⊥) → IfOk res (λ k. (rows ≡ Some k) × AreReplayable k.terms k.pledges)
    → IfErr res (IsRefusedAs rows) → Ends (Some b) res
ends b None (Ok k) whole some none found why = let e = found.0 in cc
ends b (Some j) (Ok k) whole some none found why =
    let same : j ≡ k = let e = found.0 in cc in
    (b, refl, whole, subst (IsBegunOf b) same some, found.1)
ends b rows (Err Cause.Memory) whole some none found why = tt
ends b None (Err Cause.NotReplayable) whole some none found why = (b, refl, whole, λ k h r. none k h)
ends b (Some j) (Err Cause.NotReplayable) whole some none found why = (b, refl, whole, λ k h r. why (one_book b k j h some r))
ends b rows (Err Cause.Csv) whole some none found why = absurd why
ends b rows (Err Cause.Columns) whole some none found why = absurd why
ends b rows (Err Cause.BadField) whole some none found why = absurd why
ends b rows (Err Cause.Order) whole some none found why = absurd why
ends b rows (Err Cause.TooMany) whole some none found why = absurd why
ends b rows (Err Cause.Read) whole some none found why = absurd why
