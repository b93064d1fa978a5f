-- What was owed on a pledge, by what was read of it.
use Rattle.pawn_book.proofs.SoundLists.{some_is}
use Rattle.pawn_debt.specs.declared.entry.Entry.{Entry}
use Rattle.pawn_move.proofs.Basics.{Rates, terms_at, clean_before, Credit}
use Rattle.pawn_move.proofs.Reading.{three_find}
use Rattle.pawn_move.specs.Moving.{ListFirstDebts, rows_if_any}
use Rattle.pawn_opening.specs.Common.{HasCleanDisk, State, Host, IsLent}
use Rattle.pawn_tables.proofs.PledgeReads.{holds_in, number_in, under_in}
use Rattle.pawn_tables.specs.Common.{get, totals_of, Totals, PledgeValue, debt_of, pledge_in, entries_of, terms_of}
use Rattle.pawn_tables.specs.Common.{IsUnsoundAt, Rests}
use Rattle.pawn_tables.specs.Finding.{FindsOf}
use Rattle.pawn_tables.specs.PledgeRows.{stored_credit, totals_in}
use Rattle.pawn_tables.specs.Rows.{totals_cells, totals_listed, under}
use Rattle.pawn_tables.specs.StandsFor.{AreBooksOrdered, ListDebts}
use Rattle.std.proofs.Common.{◌≡◌, ℕ, [], ◌∷◌, List, Option, Some, None, Ok, IsTrue, refl, sym, ap, ◌∙◌, is_some}
use Rattle.std.proofs.Common.{option_map, true}

-- the row that was found is that of a pledge
pub credit_is : (o : Option PledgeValue) (credit : Credit) → Some credit ≡ option_map stored_credit o
    → (p : PledgeValue) × (o ≡ Some p) × (credit ≡ stored_credit p)
credit_is None credit is = absurd (let e = is in cc)
credit_is (Some p) credit is = (p, refl, (let e = is in cc))

-- the terms that stand under the version
pub terms_are : (h : Host) (b n v : ℕ) (p : PledgeValue) (credit : Credit) (o : Option Rates) → AreBooksOrdered h → pledge_in (get h.books b) n ≡ Some p
    → credit ≡ stored_credit p → v ≡ credit.version → o ≡ terms_at (terms_of (get h.books b)) v → o ≡ Some p.agreement.terms
terms_are h b n v p credit o ordered at told version is = let same : v ≡ p.agreement.version = version ∙ ap (λ (c : Credit). c.version) told in
    is ∙ ap (terms_at (terms_of (get h.books b))) same ∙ under_in h b n p ordered at

-- the pledge that stands, of which this was read
pub record IsPledgeRead (h : Host) (b n : ℕ) (credit : Credit) (terms : Rates) (es : List Entry) : Type 0 where
  pub pledge : PledgeValue
  pub stands : pledge_in (get h.books b) n ≡ Some pledge
  pub told : credit ≡ stored_credit pledge
  pub terms_is : terms ≡ pledge.agreement.terms
  pub entries_is : es ≡ pledge.entries
  pub unextended : pledge.extensions ≡ []

-- what the three parts read is of one pledge
pub pledge_read : (s0 s1 s2 s3 : State) (h : Host) (b n v : ℕ) (oc : Option Credit) (credit : Credit) (ot : Option Rates) (terms : Rates) (all es : List Entry)
    → IsLent s0 s1 true → IsLent s1 s2 true → IsLent s2 s3 true → FindsOf ListDebts (IsUnsoundAt b) s0 s1 (Ok oc) (λ h x. x ≡ option_map stored_credit
    (pledge_in (get h.books b) n)) → FindsOf ListDebts (IsUnsoundAt b) s1 s2 (Ok ot) (λ h x. x ≡ terms_at (terms_of (get h.books b)) v) → FindsOf ListDebts
    (IsUnsoundAt b) s2 s3 (Ok all) (λ h x. x ≡ entries_of (pledge_in (get h.books b) n)) → oc ≡ Some credit → v ≡ credit.version → ot ≡ Some terms → es ≡ all
    → HasCleanDisk s3 → IsTrue s0.in_transaction → (IsTrue s0.is_open → ListFirstDebts s0.now h) → IsPledgeRead h b n credit terms es × Rests s0 s3
pledge_read s0 s1 s2 s3 h b n v oc credit ot terms all es l1 l2 l3 f1 f2 f3 some version some' same clean within tell =
    let P : Host → Option Credit → Type 0 = λ h x. x ≡ option_map stored_credit (pledge_in (get h.books b) n) in
    let Q : Host → Option Rates → Type 0 = λ h x. x ≡ terms_at (terms_of (get h.books b)) v in
    let R : Host → List Entry → Type 0 = λ h x. x ≡ entries_of (pledge_in (get h.books b) n) in
    let t = tell (l1.opened (clean_before s1 s2 true l2 (clean_before s2 s3 true l3 clean)) within refl) in
    let f = three_find ListDebts (IsUnsoundAt b) s0 s1 s2 s3 oc P ot Q all R l1 l2 l3 f1 f2 f3 clean within h (λ now. (tell now).debts) in
    let p = credit_is (pledge_in (get h.books b) n) credit (sym some ∙ f.0) in (
      record {
        pledge = p.0;
        stands = p.1;
        told = p.2;
        terms_is = some_is terms p.0.agreement.terms (terms_are h b n v p.0 credit (Some terms) t.debts.ordered p.1 p.2 version (sym some' ∙ f.1));
        entries_is = same ∙ f.2 ∙ ap entries_of p.1;
        unextended = holds_in h (λ (q : PledgeValue). q.extensions ≡ []) t.unextended b n p.0 p.1;
      },
      f.3,
    )

-- totals that were found are of a pledge
pub totals_are : (h : Host) (b n : ℕ) (t : Totals) → AreBooksOrdered h → Some t ≡ totals_in (pledge_in (get h.books b) n)
    → (true ≡ is_some (pledge_in (get h.books b) n)) × (rows_if_any (pledge_in (get h.books b) n) (totals_listed b) ≡ under b n (totals_cells t) ∷ [])
totals_are h b n t ordered is = go (pledge_in (get h.books b) n) refl is where
  go : (o : Option PledgeValue) → pledge_in (get h.books b) n ≡ o → Some t ≡ totals_in o
      → (true ≡ is_some o) × (rows_if_any o (totals_listed b) ≡ under b n (totals_cells t) ∷ [])
  go None at is = absurd (let e = is in cc)
  go (Some p) at is = let same = some_is t (totals_of (debt_of p)) is in
      let number = number_in h b n p ordered at in
      (refl, λ i. under b (number i) (totals_cells (sym same i)) ∷ [])
