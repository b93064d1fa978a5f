-- A text is the text of at most one book.
use Rattle.pawn_csv.proofs.Basics.{◌≡◌, ◌∙◌, ◌++◌, ◌∷◌, ◌≤◌, ℕ, [], Bool, true, false, List, length, Option, Some, refl}
use Rattle.pawn_csv.proofs.Basics.{sym, ap, subst, arith, nat_le, map, append-nil, nat_tests}
use Rattle.pawn_csv.proofs.FinishLemmas.{same_closing, same_rates}
use Rattle.pawn_csv.proofs.OneReading.{no_further, reached_on, taken_same}
use Rattle.pawn_csv.proofs.TakenLemmas.{texts_are_read_as}
use Rattle.pawn_csv.specs.Common.{BookRows, Each, IsUnder, PledgeValue, Rates, Standing, default_config, State}
use Rattle.pawn_csv.specs.Finishing.{IsBegunOf, IsFinishedAs, raw_of}
use Rattle.pawn_csv.specs.Laws.{TextsHoldOneBook}
use Rattle.pawn_csv.specs.Order.{Begun}
use Rattle.pawn_csv.specs.Reading.{AreTaken, IsReadAs}
use Rattle.pawn_csv.specs.Types.{RawPledge}
use Rattle.pawn_pledge.specs.declared.record.Agreement.{Agreement}

some_same : (a b : ℕ) → Some a ≡ Some b → a ≡ b
some_same a b e = cc

same_agreement : (a b : Agreement) → a.number ≡ b.number → a.opening ≡ b.opening → a.taken ≡ b.taken → a.version ≡ b.version → a.terms ≡ b.terms → a ≡ b
same_agreement a b e f g h i = rw (e, f, g, h, i) refl

same_standing : (a b : Standing) → a.held ≡ b.held → a.booking ≡ b.booking → a.last ≡ b.last → a.closing ≡ b.closing → a ≡ b
same_standing a b e f g h = rw (e, f, g, h) refl

same_pledge : (p q : PledgeValue) → p.agreement ≡ q.agreement → p.standing ≡ q.standing → p.entries ≡ q.entries → p.secrets ≡ q.secrets
    → p.extensions ≡ q.extensions → p ≡ q
same_pledge p q e f g h i = rw (e, f, g, h, i) refl

-- the rows of a pledge determine the pledge, under its book's terms
one_pledge : (terms : List Rates) (p q : PledgeValue) → IsUnder terms p → IsUnder terms q → raw_of p ≡ raw_of q → p ≡ q
one_pledge terms p q hp hq e =
    let columns = λ (r : RawPledge). r.columns in
    let version = ap (λ (r : RawPledge). r.columns.version) e in
    same_pledge p q (same_agreement p.agreement q.agreement (ap (λ (r : RawPledge). r.columns.number) e) (ap (λ (r : RawPledge). r.columns.opening) e)
    (ap (λ (r : RawPledge). r.columns.taken) e) version (same_rates terms p.agreement.version q.agreement.version p.agreement.terms q.agreement.terms version hp
    hq)) (same_standing p.standing q.standing (ap (λ (r : RawPledge). r.columns.held) e) (ap (λ (r : RawPledge). r.booking) e)
    (ap (λ (r : RawPledge). r.columns.last) e) (same_closing p.standing.closing q.standing.closing (ap (λ (r : RawPledge). r.columns.closing) e)
    (ap (λ (r : RawPledge). r.columns.closing_day) e) (ap (λ (r : RawPledge). r.columns.amount) e)))
    (ap (λ (r : RawPledge). r.entries) e) (ap (λ (r : RawPledge). r.secrets) e) (ap (λ (r : RawPledge). r.extensions) e)

one_list : (terms : List Rates) (ps qs : List PledgeValue) → Each (IsUnder terms) ps → Each (IsUnder terms) qs → map raw_of ps ≡ map raw_of qs → ps ≡ qs
one_list terms [] [] hp hq e = refl
one_list terms [] (q ∷ qs) hp hq e = absurd (omega (arith, ap length e))
one_list terms (p ∷ ps) [] hp hq e = absurd (omega (arith, ap length e))
one_list terms (p ∷ ps) (q ∷ qs) hp hq e =
    let first : raw_of p ≡ raw_of q = cc in
    let rest : map raw_of ps ≡ map raw_of qs = cc in
    ap (λ (x : PledgeValue). x ∷ ps) (one_pledge terms p q hp.0 hq.0 first) ∙ ap (λ (xs : List PledgeValue). q ∷ xs) (one_list terms ps qs hp.1 hq.1 rest)

same_book : (j k : BookRows) → j.terms ≡ k.terms → j.pledges ≡ k.pledges → j ≡ k
same_book j k e f = rw (e, f) refl

one_book : (b : Begun) (j k : BookRows) → IsBegunOf b j → IsBegunOf b k → j ≡ k
one_book b j k hj hk = same_book j k (sym hj.0 ∙ hk.0) (one_list b.terms j.pledges k.pledges hj.1.1 hk.1.1 (sym hj.1.0 ∙ hk.1.0))

one_finish : (s : Option Begun) (j k : BookRows) → IsFinishedAs s j → IsFinishedAs s k → j ≡ k
one_finish s j k hj hk =
    let same : hj.0 ≡ hk.0 = (let e = sym hj.1 ∙ hk.1 in cc) in
    one_book hj.0 j k hj.3 (subst (λ (b : Begun). IsBegunOf b k) (sym same) hk.3)

shorter : (text : List ℕ) (j k : BookRows) (a : IsReadAs text j) (b : IsReadAs text k) → length a.0 ≤ length b.0 → j ≡ k
shorter text j k a b short =
    let (more, whole, on) = reached_on default_config a.0 b.0 State.StartRecord text a.3.0 a.3.1 b.3.0 b.3.1 a.3.2 b.3.2 short in
    let none = no_further a.3.0 a.3.1 more b.3.0 b.3.1 a.3.3 on in
    let same : a.0 ≡ b.0 = sym (append-nil a.0) ∙ ap (λ (x : List (List (List ℕ))). a.0 ++ x) (sym none) ∙ whole in
    let begun = taken_same a.0 a.1 b.1 a.2 b.2 a.4 (subst (λ (x : List (List (List ℕ))). AreTaken x b.1 b.2) (sym same) b.4) in
    one_finish a.2 j k a.5 (subst (λ (s : Option Begun). IsFinishedAs s k) (sym begun) b.5)

one_reading : (text : List ℕ) (j k : BookRows) → IsReadAs text j → IsReadAs text k → j ≡ k
one_reading text j k a b = from (nat_le (length a.0) (length b.0)) refl where
  from : (v : Bool) → nat_le (length a.0) (length b.0) ≡ v → j ≡ k
  from true is = shorter text j k a b (grind (arith, nat_tests, is))
  from false is = sym (shorter text k j b a (grind (arith, nat_tests, is)))

pub texts_hold_one_book : TextsHoldOneBook
texts_hold_one_book text j k a b = one_reading text j k (texts_are_read_as text j a) (texts_are_read_as text k b)
