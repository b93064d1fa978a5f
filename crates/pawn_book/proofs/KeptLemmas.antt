-- What every change preserves of the pledges of a book.
use Rattle.pawn_book.proofs.Sounds.{absurd_none, some_is}
use Rattle.pawn_book.specs.BookStep.{pledge_from, put_from, with_reference}
use Rattle.pawn_book.specs.Changes.{Continues}
use Rattle.pawn_book.specs.Common.{Agreement, Changed, Command, Done, PledgeValue, Stamp, pledge_step}
use Rattle.pawn_book.specs.Rows.{is_same_text}
use Rattle.pawn_pledge.proofs.Growth.{grows-moved, grows-same, grows-then}
use Rattle.pawn_pledge.proofs.Steps.{agreement_stays, lists_of_step}
use Rattle.std.proofs.Common.{◌≡◌, ℕ, ◌+◌, List, [], ◌∷◌, ◌++◌, Some, refl, ◌∙◌, ap, sym, subst, if◌then◌else◌, true}
use Rattle.std.proofs.Common.{false, ◌==◌}

pub kept_same : (p : PledgeValue) → Continues p p
kept_same p = record { agreement = refl; lists = grows-same p }

pub kept_on : (p q r : PledgeValue) → Continues p q → Continues q r → Continues p r
kept_on p q r f s = record { agreement = s.agreement ∙ f.agreement; lists = grows-then p q r f.lists s.lists }

-- every command preserves it
pub kept_moved : (p q : PledgeValue) (stamp : Stamp) (c : Command) (d : Done) → pledge_step p stamp c ≡ Changed q d → Continues p q
kept_moved p q stamp c d h = record {
  agreement = agreement_stays p q stamp c d h;
  lists = grows-moved p q stamp.word stamp.day (lists_of_step p q stamp c d h);
}

-- each pledge of a list is kept in another, at its place
abbrev pub AreKept : List PledgeValue → List PledgeValue → Type 0
AreKept [] qs = Unit {0}
AreKept (p ∷ ps) [] = ⊥
AreKept (p ∷ ps) (q ∷ qs) = Continues p q × AreKept ps qs

pub are_kept_same : (ps : List PledgeValue) → AreKept ps ps
are_kept_same [] = tt
are_kept_same (p ∷ ps) = (kept_same p, are_kept_same ps)

pub are_kept_on : (ps qs rs : List PledgeValue) → AreKept ps qs → AreKept qs rs → AreKept ps rs
are_kept_on [] qs rs f s = tt
are_kept_on (p ∷ ps) [] rs f s = absurd f
are_kept_on (p ∷ ps) (q ∷ qs) [] f s = absurd s
are_kept_on (p ∷ ps) (q ∷ qs) (r ∷ rs) f s = (kept_on p q r f.0 s.0, are_kept_on ps qs rs f.1 s.1)

pub are_kept_push : (ps more : List PledgeValue) → AreKept ps (ps ++ more)
are_kept_push [] more = tt
are_kept_push (p ∷ ps) more = (kept_same p, are_kept_push ps more)

-- the same with one pledge replaced by one that preserves it
pub are_kept_put : (k : ℕ) (ps : List PledgeValue) (n : ℕ) (p q : PledgeValue) → pledge_from k ps n ≡ Some p → Continues p q → AreKept ps (put_from k ps n q)
are_kept_put k [] n p q is kept = tt
are_kept_put k (r ∷ ps) n p q is kept =
    elim (n == k) as (λ v. (if v then Some r else pledge_from (k + 1) ps n) ≡ Some p → AreKept (r ∷ ps) (if v then q ∷ ps else r ∷ put_from (k + 1) ps n q)) [
      | true ↦ λ here. (subst (λ (x : PledgeValue). Continues x q) (sym (some_is r p here)) kept, are_kept_same ps)
      | false ↦ λ there. (kept_same r, are_kept_put (k + 1) ps n p q there kept)
    ] is

-- the pledge at a number is kept at it
pub number_kept : (k : ℕ) (ps qs : List PledgeValue) (n : ℕ) (p : PledgeValue) → AreKept ps qs → pledge_from k ps n ≡ Some p
    → (q : PledgeValue) × (pledge_from k qs n ≡ Some q) × Continues p q
number_kept k [] qs n p all is = absurd_none is
number_kept k (r ∷ ps) [] n p all is = absurd all
number_kept k (r ∷ ps) (s ∷ qs) n p all is =
    elim (n == k) as (λ v. (if v then Some r else pledge_from (k + 1) ps n) ≡ Some p → (q : PledgeValue)
    × ((if v then Some s else pledge_from (k + 1) qs n) ≡ Some q) × Continues p q) [
      | true ↦ λ here. (s, refl, subst (λ (x : PledgeValue). Continues x s) (some_is r p here) all.0)
      | false ↦ λ there. number_kept (k + 1) ps qs n p all.1 there
    ] is

-- the pledge of a reference is kept
pub reference_kept : (ps qs : List PledgeValue) (reference : List ℕ) (p : PledgeValue) → AreKept ps qs → with_reference ps reference ≡ Some p
    → (q : PledgeValue) × (with_reference qs reference ≡ Some q) × Continues p q
reference_kept [] qs reference p all is = absurd_none is
reference_kept (r ∷ ps) [] reference p all is = absurd all
reference_kept (r ∷ ps) (s ∷ qs) reference p all is =
    let same : is_same_text s.agreement.opening.reference reference ≡ is_same_text r.agreement.opening.reference reference =
    ap (λ (a : Agreement). is_same_text a.opening.reference reference) all.0.agreement in
    elim (is_same_text r.agreement.opening.reference reference) as
    (λ v. is_same_text s.agreement.opening.reference reference ≡ v → (if v then Some r else with_reference ps reference) ≡ Some p
    → (q : PledgeValue) × (with_reference (s ∷ qs) reference ≡ Some q) × Continues p q) [
      | true ↦ λ as_there here.
          (s, ap (λ v. if v then Some s else with_reference qs reference) as_there, subst (λ (x : PledgeValue). Continues x s) (some_is r p here) all.0)
      | false ↦ λ as_there there.
          let rest = reference_kept ps qs reference p all.1 there in
          (rest.0, ap (λ v. if v then Some s else with_reference qs reference) as_there ∙ rest.1, rest.2)
    ] same is

-- a pledge that is put at its number is read there
pub put_there : (k : ℕ) (ps : List PledgeValue) (n : ℕ) (p q : PledgeValue) → pledge_from k ps n ≡ Some p → pledge_from k (put_from k ps n q) n ≡ Some q
put_there k [] n p q is = absurd_none is
put_there k (r ∷ ps) n p q is =
    elim (n == k) as (λ v. n == k ≡ v → (if v then Some r else pledge_from (k + 1) ps n) ≡ Some p
    → pledge_from k (if v then q ∷ ps else r ∷ put_from (k + 1) ps n q) n ≡ Some q) [
      | true ↦ λ same here. ap (λ v. if v then Some q else pledge_from (k + 1) ps n) same
      | false ↦ λ other there. ap (λ v. if v then Some r else pledge_from (k + 1) (put_from (k + 1) ps n q) n) other ∙ put_there (k + 1) ps n p q there
    ] refl is
