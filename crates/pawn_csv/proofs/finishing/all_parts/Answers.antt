use Rattle.pawn_csv.proofs.Basics.{◌≡◌, ◌∙◌, List, ◌∷◌, ◌++◌, ap, sym, subst, rules}
use Rattle.pawn_csv.proofs.FinishLemmas.{no_parts}
use Rattle.pawn_csv.specs.Finishing.{AreRawOf}
use Rattle.pawn_csv.specs.Types.{RawPledge}
use Rattle.pawn_csv.proofs.finishing.all_parts.Goals as goal

pub returns-in_default-clause-none : goal.returns-in_default-clause-none
returns-in_default-clause-none c =
    let rest = c.next.new.self.rest.items in
    let step : c.loop-raw.raw-iterator.rest.items ≡ c.in-Some.raw ∷ rest = search rules in
    let whole = ap (λ (xs : List RawPledge). c.loop-raw.yielded ++ xs) (sym step) ∙ c.loop-raw.invariant.whole in
    λ pledges h. no_parts c.args.terms.now c.loop-raw.yielded c.in-Some.raw rest pledges c.in_default.ensures.none
    (subst (λ (xs : List RawPledge). AreRawOf c.args.terms.now xs pledges) (sym whole) h)
