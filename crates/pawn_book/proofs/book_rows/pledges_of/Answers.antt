use Rattle.pawn_book.specs.Common.{Each, IsReachable, PledgeValue}
use Rattle.std.proofs.Common.{◌≡◌, ◌∙◌, List, ◌∷◌, [], ◌++◌, ap, sym, subst, rules}
use Rattle.pawn_book.proofs.book_rows.pledges_of.Goals as goal

-- what holds of each element of a list holds of one in its middle
middle : (P : PledgeValue → Type 0) (xs : List PledgeValue) (y : PledgeValue) (ys : List PledgeValue) → Each P (xs ++ y ∷ ys) → P y
middle P [] y ys all = all.0
middle P (x ∷ xs) y ys all = middle P xs y ys all.1

pub returns-in_default-clause-none : goal.returns-in_default-clause-none
returns-in_default-clause-none c =
    let rest = c.next.new.self.rest.items in
    let step : c.loop-parts.parts-iterator.rest.items ≡ c.in-Some.parts ∷ rest = search rules in
    let whole = ap (λ (xs : List PledgeValue). c.loop-parts.yielded ++ xs) (sym step) ∙ c.loop-parts.invariant.whole in
    λ all. c.in_default.ensures.refused (middle IsReachable c.loop-parts.yielded c.in-Some.parts rest
    (subst (λ (xs : List PledgeValue). Each IsReachable xs) (sym whole) all))
