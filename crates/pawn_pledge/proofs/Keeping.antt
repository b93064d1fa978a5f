-- What the fields of a pledge keep, after an extension.
use Rattle.pawn_pledge.proofs.Pushes.{later_of-push}
use Rattle.pawn_pledge.specs.Common.{DebtValue, Entry}
use Rattle.pawn_pledge.specs.Kept.{IsPledgeKept}
use Rattle.pawn_pledge.specs.Pledge.{PledgeValue, debt_of, end_of, end_with}
use Rattle.pawn_pledge.specs.Words.{with_extension, with_last}
use Rattle.pawn_pledge.specs.declared.record.Extension.{Extension}
use Rattle.std.proofs.Common.{◌≡◌, ℕ, ◌<◌, ◌≤◌, List, [], ◌∷◌, ◌++◌, None, sym, ap, subst, ◌∙◌, arith}

-- p is the record in the fields, and v the value in contracts
pub kept-extended : (p v : PledgeValue) (d new : DebtValue) (es : List Entry) (xs : List Extension) (x : Extension) → p ≡ v → IsPledgeKept p d → es ≡ p.entries
    → new ≡ record d { ends = x.until } → xs ≡ p.extensions ++ x ∷ [] → v.standing.last ≤ x.day → end_of v < x.until
    → IsPledgeKept (record { agreement = p.agreement; entries = es; secrets = p.secrets; extensions = xs; standing = with_last p.standing x.day }) new
kept-extended p v d new es xs x is h entries moved more later longer =
    let P : PledgeValue → Type 0 = λ q. (q.standing.last ≤ x.day) × (end_of q < x.until) in
    let a : P p = subst P (sym is) (later, longer) in
    let ends : end_of (with_extension p x) ≡ x.until = later_of-push (end_with p.agreement None) p.extensions x a.1 in
    rw (entries, more, moved) (record {
      debt = ap (λ (e : DebtValue). record e { ends = x.until }) h.debt ∙ ap (λ (n : ℕ). record (debt_of p) { ends = n }) (sym ends);
      taken_in = h.taken_in;
      last_in = omega (arith, h.last_in, a.0);
      some = h.some;
      few = h.few;
    })
