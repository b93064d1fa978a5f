-- The places of a book's pledges and terms in its lists.
use Rattle.pawn_book.specs.BookStep.{BookValue, pledge_from, pledge_in, put_from}
use Rattle.pawn_book.specs.Common.{PledgeValue, Rates}
use Rattle.pawn_book.specs.Keeping.{pledges_of}
use Rattle.pawn_book.specs.Rows.{terms_at}
use Rattle.std.proofs.Common.{◌≡◌, ◌≢◌, ◌∙◌, ℕ, zero, suc, ◌+◌, ◌<◌, ◌≤◌, List, [], ◌∷◌, length, Option, Some, None}
use Rattle.std.proofs.Common.{eqb, refl, ap, arith, if◌then◌else◌, ◌==◌, true, false, slice_get}
use Rattle.std.proofs.lemmas.Bool.Decides.{nat_tests}

pub pledge_below : (k : ℕ) (ps : List PledgeValue) (n : ℕ) → n < k → pledge_from k ps n ≡ None
pledge_below k [] n lt = refl
pledge_below k (p ∷ ps) n lt = let less : n < k + 1 = omega arith in grind (arith, nat_tests, pledge_below (k + 1) ps n less)

pub pledge_past : (k : ℕ) (ps : List PledgeValue) (n : ℕ) → k + length ps ≤ n → pledge_from k ps n ≡ None
pledge_past k [] n le = refl
pledge_past k (p ∷ ps) n le = let less : (k + 1) + length ps ≤ n = omega arith in grind (arith, nat_tests, pledge_past (k + 1) ps n less)

pub pledge_within : (k : ℕ) (ps : List PledgeValue) (n : ℕ) (p : PledgeValue) → pledge_from k ps n ≡ Some p → (k ≤ n) × (n < k + length ps)
pledge_within k [] n p e = grind (arith, e)
pledge_within k (r ∷ ps) n p e = grind (arith, nat_tests, pledge_within (k + 1) ps n p)

pub pledge_from-put : (k : ℕ) (ps : List PledgeValue) (n : ℕ) (p : PledgeValue) (q : ℕ) → k ≤ n → n ≤ k + length ps
    → pledge_from k (put_from k ps n p) q ≡ (if q == n then Some p else pledge_from k ps q)
pledge_from-put k [] n p q low high = let is : n ≡ k = omega arith in rw is refl
pledge_from-put k (r ∷ ps) n p q low high =
    elim (eqb n k) as
    (λ b. eqb n k ≡ b → pledge_from k (if b then p ∷ ps else r ∷ put_from (k + 1) ps n p) q ≡ (if q == n then Some p else pledge_from k (r ∷ ps) q)) [
      | true ↦ λ e. grind (arith, nat_tests, e)
      | false ↦ λ e. let more : (k ≢ n)
          → k + 1 ≤ n = λ ne. omega arith in let less : n ≤ (k + 1) + length ps = omega arith in grind (arith, nat_tests, e, pledge_from-put (k + 1) ps n p q)
    ] refl

-- the pledge of a number is the one at its place
pub pledge_at_place : (k : ℕ) (ps : List PledgeValue) (i n : ℕ) → n ≡ k + i → pledge_from k ps n ≡ slice_get ps i
pledge_at_place k [] i n is = refl
pledge_at_place k (p ∷ ps) zero n is =
    let here : (n == k) ≡ true = grind (arith, nat_tests, is) in
    ap (λ c. if c then Some p else pledge_from (k + 1) ps n) here
pledge_at_place k (p ∷ ps) (suc i) n is =
    let other : (n == k) ≡ false = grind (arith, nat_tests, is) in
    ap (λ c. if c then Some p else pledge_from (k + 1) ps n) other ∙ pledge_at_place (k + 1) ps i n (omega (arith, is))

pub pledge_at : (o : Option BookValue) (i n : ℕ) → n ≡ i + 1 → pledge_in o n ≡ slice_get (pledges_of o) i
pledge_at None i n is = refl
pledge_at (Some b) i n is = pledge_at_place 1 b.pledges i n (omega (arith, is))

pub terms_at_place : (terms : List Rates) (i : ℕ) → terms_at terms (i + 1) ≡ slice_get terms i
terms_at_place terms i = let next : i + 1 ≡ suc i = omega arith in ap (terms_at terms) next
