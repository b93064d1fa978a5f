-- Where a pledge stands in a list, and where it is put.
use Rattle.pawn_list_keeper.specs.Common.{PledgeValue, is_same_text, put_from, with_reference}
use Rattle.std.proofs.Common.{◌≡◌, ◌≢◌, ℕ, ◌+◌, ◌<◌, ◌≤◌, zero, suc, List, [], ◌∷◌, length, drop, get_or, set, Some}
use Rattle.std.proofs.Common.{None, ◌∙◌, ap, sym, arith, if◌then◌else◌, ◌==◌, true, false}
use Rattle.std.proofs.lemmas.Bool.Decides.{nat_tests}
use Rattle.std.proofs.lemmas.List.{drop_all, drop_more}

-- a pledge put at its place
pub put_from_place : (k : ℕ) (ps : List PledgeValue) (i n : ℕ) (p : PledgeValue) → i < length ps → n ≡ k + i → set ps i p ≡ put_from k ps n p
put_from_place k [] i n p less is = absurd (omega arith)
put_from_place k (r ∷ ps) zero n p less is =
    let here : n ≡ k = omega arith in
    let yes : (n == k) ≡ true = grind (arith, nat_tests, here) in
    sym (ap (λ v. if v then p ∷ ps else r ∷ put_from (k + 1) ps n p) yes)
put_from_place k (r ∷ ps) (suc i) n p less is =
    let past : n ≢ k = λ same. absurd (omega (arith, same, is)) in
    let no : (n == k) ≡ false = grind (arith, nat_tests, past) in
    let next : n ≡ (k + 1) + i = omega (arith, is) in
    let fewer : i < length ps = omega (arith, less) in
    ap (λ qs. r ∷ qs) (put_from_place (k + 1) ps i n p fewer next) ∙ sym (ap (λ v. if v then p ∷ ps else r ∷ put_from (k + 1) ps n p) no)

-- the pledge of a reference, searched for from the front
pub reference_here : (ps : List PledgeValue) (reference : List ℕ) (i : ℕ) (p : PledgeValue) → i < length ps → p ≡ get_or ps i p
    → is_same_text p.agreement.opening.reference reference ≡ true → with_reference (drop i ps) reference ≡ Some p
reference_here ps reference i p less is hit =
    ap (λ qs. with_reference qs reference) (drop_more ps i p less ∙ ap (λ q. q ∷ drop (i + 1) ps) (sym is))
    ∙ ap (λ v. if v then Some p else with_reference (drop (i + 1) ps) reference) hit

pub reference_next : (ps : List PledgeValue) (reference : List ℕ) (i : ℕ) (p : PledgeValue) → i < length ps → p ≡ get_or ps i p
    → is_same_text p.agreement.opening.reference reference ≡ false → with_reference (drop i ps) reference ≡ with_reference (drop (i + 1) ps) reference
reference_next ps reference i p less is miss =
    ap (λ qs. with_reference qs reference) (drop_more ps i p less ∙ ap (λ q. q ∷ drop (i + 1) ps) (sym is))
    ∙ ap (λ v. if v then Some p else with_reference (drop (i + 1) ps) reference) miss

pub reference_past : (ps : List PledgeValue) (reference : List ℕ) (i : ℕ) → length ps ≤ i → with_reference (drop i ps) reference ≡ None
reference_past ps reference i past = ap (λ qs. with_reference qs reference) (drop_all i ps past)
