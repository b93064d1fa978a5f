-- A pledge of what was read of it.
use Rattle.pawn_book.proofs.SoundLists.{under_length}
use Rattle.pawn_pledge.specs.declared.brief.BriefFields.{BriefFields}
use Rattle.pawn_tables.proofs.Basics.{PledgeRow}
use Rattle.pawn_tables.proofs.Lent.{unfound}
use Rattle.pawn_tables.proofs.PledgeReads.{number_in, under_in}
use Rattle.pawn_tables.specs.Common.{get, State, Rates, PledgeValue, BookValue, pledge_in, Host, entries_of}
use Rattle.pawn_tables.specs.Common.{extensions_of, secrets_of, terms_of, terms_at, IsUnsoundAt, KeepError, IsLent}
use Rattle.pawn_tables.specs.Common.{HasTermsOf, Rests}
use Rattle.pawn_tables.specs.Finding.{FindsIn, IsRead}
use Rattle.pawn_tables.specs.PledgeRows.{AreLists, AreRelated, IsPledgeRow, booking_of, row_of, totals_in}
use Rattle.pawn_tables.specs.StandsFor.{AreBooksOrdered, AreStorable}
use Rattle.pawn_tables.specs.declared.joining.PledgeLists.{PledgeLists}
use Rattle.pawn_tables.specs.declared.joining.RelatedRows.{RelatedRows}
use Rattle.pawn_tables.specs.declared.joining.StoredPledge.{StoredPledge}
use Rattle.std.proofs.Common.{◌≡◌, ◌≤◌, ◌<◌, ◌^◌, ℕ, zero, suc, List, [], ◌∷◌, length, Option, Some, None, Result, Ok}
use Rattle.std.proofs.Common.{Err, refl, sym, ap, subst, ◌∙◌, arith, IfSome, is_ok, option_map}

-- the row that was found is that of a pledge
pub row_is : (o : Option PledgeValue) (row : PledgeRow) → Some row ≡ option_map row_of o → (p : PledgeValue) × (o ≡ Some p) × (row ≡ row_of p)
row_is None row is = absurd (let e = is in cc)
row_is (Some p) row is = (p, refl, (let e = is in cc))

-- a version of 32 bits
pub version_fits : (h : Host) (b n : ℕ) (p : PledgeValue) → AreBooksOrdered h → AreStorable h → pledge_in (get h.books b) n ≡ Some p
    → p.agreement.version < 2 ^ 32
version_fits h b n p ordered storable is = inside (get h.books b) refl (under_in h b n p ordered is) where
  inside : (o : Option BookValue) → get h.books b ≡ o → terms_at (terms_of o) p.agreement.version ≡ Some p.agreement.terms → p.agreement.version < 2 ^ 32
  inside None e at = let low = under_length [] p.agreement.version p.agreement.terms at in omega (arith, low)
  inside (Some k) e at = let low = under_length k.terms p.agreement.version p.agreement.terms at in let few = (storable b k e).versions in
      omega (arith, low, few)

pub related_told : (h : Host) (b n v : ℕ) (s : RelatedRows) → AreBooksOrdered h → s.terms ≡ terms_at (terms_of (get h.books b)) v
    → s.booking ≡ booking_of (pledge_in (get h.books b) n) → s.totals ≡ totals_in (pledge_in (get h.books b) n)
    → IfSome (pledge_in (get h.books b) n) (λ p. v ≡ p.agreement.version → AreRelated s p)
related_told h b n v s ordered terms booking totals = go (pledge_in (get h.books b) n) refl booking totals where
  go : (o : Option PledgeValue) → pledge_in (get h.books b) n ≡ o → s.booking ≡ booking_of o → s.totals ≡ totals_in o
      → IfSome o (λ p. v ≡ p.agreement.version → AreRelated s p)
  go None is booking totals = tt
  go (Some p) is booking totals = λ version. record {
    terms = terms ∙ ap (terms_at (terms_of (get h.books b))) version ∙ under_in h b n p ordered is;
    booking = booking;
    totals = totals;
  }

pub lists_told : (o : Option PledgeValue) (l : PledgeLists) → l.entries ≡ entries_of o → l.secrets ≡ secrets_of o → l.extensions ≡ extensions_of o
    → IfSome o (AreLists l)
lists_told None l entries secrets extensions = tt
lists_told (Some p) l entries secrets extensions = record { entries = entries; secrets = secrets; extensions = extensions }

past_terms : (ts : List Rates) (v : ℕ) → length ts < v → None ≡ terms_at ts v
past_terms ts zero lt = absurd (omega (arith, lt))
past_terms [] (suc v) lt = refl
past_terms (t ∷ ts) (suc zero) lt = absurd (omega (arith, lt))
past_terms (t ∷ ts) (suc (suc v)) lt = past_terms ts (suc v) (omega (arith, lt))

-- no terms stand under a version that 32 bits can't hold
pub none_under : (s0 s1 : State) (r : Result (Option Rates) KeepError) (b v : ℕ) → 2 ^ 32 ≤ v → IsLent s0 s1 (is_ok r) → FindsIn (IsUnsoundAt b) s0 s1 r
    (λ h x. x ≡ terms_at (terms_of (get h.books b)) 0) → FindsIn (IsUnsoundAt b) s0 s1 r (λ h x. x ≡ terms_at (terms_of (get h.books b)) v)
none_under s0 s1 (Err e) b v big lent f clean within h stood =
    unfound e (Err e) (λ x. (x ≡ terms_at (terms_of (get h.books b)) 0) × Rests s0 s1) (λ x. (x ≡ terms_at (terms_of (get h.books b)) v) × Rests s0 s1)
    (IsUnsoundAt b h) refl (f clean within h stood)
none_under s0 s1 (Ok x) b v big lent f clean within h stood = let found = f clean within h stood in
    let st = stood (lent.opened clean within refl) in
    (found.0 ∙ inside (get h.books b) refl st.storable, found.1) where
      inside : (o : Option BookValue) → get h.books b ≡ o → AreStorable h → None ≡ terms_at (terms_of o) v
      inside None e storable = past_terms [] v (omega (arith, big))
      inside (Some k) e storable = let few = (storable b k e).versions in past_terms k.terms v (omega (arith, few, big))

-- what the row and the related tell together
pub told_of : (h : Host) (b n v : ℕ) (p : PledgeValue) (t : StoredPledge) → pledge_in (get h.books b) n ≡ Some p → t.row ≡ row_of p → v ≡ t.row.version
    → IfSome (pledge_in (get h.books b) n) (λ q. v ≡ q.agreement.version → AreRelated t.related q) → IsPledgeRow (Some t) (pledge_in (get h.books b) n)
told_of h b n v p t at of version related = let beside = subst (λ o. IfSome o (λ q. v ≡ q.agreement.version → AreRelated t.related q)) at related in
    subst (IsPledgeRow (Some t)) (sym at) (of, beside (version ∙ ap (λ (r : PledgeRow). r.version) of))

-- the same, with terms that are known of another pledge under the same version
pub known_told : (h : Host) (b n : ℕ) (row : PledgeRow) (related : RelatedRows) (terms : Rates) (known : BriefFields) → AreBooksOrdered h
    → Some row ≡ option_map row_of (pledge_in (get h.books b) n) → (terms ≡ known.agreement.terms) × (row.version ≡ known.agreement.version)
    → (related.terms ≡ Some terms) × (related.booking ≡ booking_of (pledge_in (get h.books b) n)) × (related.totals ≡ totals_in (pledge_in (get h.books b) n))
    → HasTermsOf (get h.books b) known → IsPledgeRow (Some (record { row = row; related = related })) (pledge_in (get h.books b) n)
known_told h b n row related terms known ordered found same beside has = let r = row_is (pledge_in (get h.books b) n) row found in
    told_of h b n known.agreement.version r.0 (record { row = row; related = related }) r.1 r.2 (sym same.1)
    (related_told h b n known.agreement.version related ordered (beside.0 ∙ ap Some same.0 ∙ sym has) beside.1 beside.2)

-- .. which is of a pledge that stands
told_is : (o : Option PledgeValue) (t : StoredPledge) → IsPledgeRow (Some t) o → (p : PledgeValue) × (o ≡ Some p) × (t.row ≡ row_of p) × AreRelated t.related p
told_is None t told = absurd told
told_is (Some p) t told = (p, refl, told.0, told.1)

-- what was joined of what was found of a pledge, or why it was not
pub joined_told : {A L : Type 0} (h : Host) (b n : ℕ) (found : Option StoredPledge) (t : StoredPledge) (l : L) (Are : L → PledgeValue → Type 0)
    (shows : PledgeValue → A) (Q : PledgeValue → Type 0) (r : Result A KeepError) (number : ℕ) → number ≡ n → AreBooksOrdered h → found ≡ Some t
    → IsPledgeRow found (pledge_in (get h.books b) n) → IfSome (pledge_in (get h.books b) n) (Are l)
    → ((q : PledgeValue) → number ≡ q.agreement.number → t.row ≡ row_of q
    → AreRelated t.related q → Are l q → IsRead r (shows q) (Q q)) → (p : PledgeValue) × (pledge_in (get h.books b) n ≡ Some p) × IsRead r (shows p) (Q p)
joined_told h b n found t l Are shows Q r number named ordered is told lists read =
    let k = told_is (pledge_in (get h.books b) n) t (subst (λ f. IsPledgeRow f (pledge_in (get h.books b) n)) is told) in
    (k.0, k.1, read k.0 (named ∙ sym (number_in h b n k.0 ordered k.1)) k.2 k.3 (subst (λ o. IfSome o (Are l)) k.1 lists))
