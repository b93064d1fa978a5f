-- What the statement writes that changes the row of a pledge.
use Rattle.pawn_debt.specs.Due.{credit_of}
use Rattle.pawn_saving.proofs.Basics.{plainly, cast_int, cast_whole}
use Rattle.pawn_saving.proofs.Differing.{differ, all_equal, same_number, same_optional}
use Rattle.pawn_saving.proofs.OurTables.{row_set_where}
use Rattle.pawn_saving.proofs.Places.{pledges_place}
use Rattle.pawn_saving.proofs.StatementWrites.{cast_optional, own_row, own_where}
use Rattle.pawn_saving.specs.Common.{Agreement, with_rows, ListsOurs}
use Rattle.pawn_saving.specs.RowWrites.{IsOnly}
use Rattle.pawn_tables.specs.At.{at_pledge}
use Rattle.pawn_tables.specs.Common.{Row, column, Executes, State, Value, Int, Text, PledgeValue, end_of, Listed}
use Rattle.pawn_tables.specs.Common.{columns_of}
use Rattle.pawn_tables.specs.Rows.{closed_amount, closed_day, closed_number, flag, flag_number, kind_number, number}
use Rattle.pawn_tables.specs.Rows.{or_null, pledge_cells, under}
use Rattle.pawn_tables.specs.Schema.{pledges, pledges_tree}
use Rattle.std.proofs.Common.{◌≡◌, ℕ, Bool, List, [], ◌∷◌, Ok, refl, ap, ◌∙◌}
use Rattle.pawn_saving.proofs.WriteTexts as text

-- what can change of a row
abbrev pub changing : PledgeValue → Row
changing p = number (end_of p) ∷ flag p.standing.held ∷ number p.standing.last ∷ number (closed_number p.standing.closing)
    ∷ or_null number (closed_day p.standing.closing) ∷ or_null number (closed_amount p.standing.closing) ∷ []

-- what stands of it in a row, beside what is to stand there, after the end
abbrev beside : PledgeValue → Row → List (Value × Value)
beside p v = (column v 11, flag p.standing.held) ∷ (column v 12, number p.standing.last) ∷ (column v 13, number (closed_number p.standing.closing))
    ∷ (column v 14, or_null number (closed_day p.standing.closing)) ∷ (column v 15, or_null number (closed_amount p.standing.closing)) ∷ []

abbrev others_in : PledgeValue → Row → Bool
others_in p v = differ (column v 10, number (end_of p)) (beside p v)

-- a row with what was agreed, and with what can change
abbrev row_with : ℕ → ℕ → Agreement → Row → Row
row_with b n a more = let o = a.opening in
    number b ∷ number n ∷ Text o.reference ∷ Text o.article ∷ number (kind_number o.kind) ∷ number (credit_of o.kind) ∷ number a.taken ∷ or_null number o.agreed
    ∷ flag o.five_days ∷ number a.version ∷ more

pub row_set : (old new : State) (listed : Listed) (st : ListsOurs old.now listed) (count b n : ℕ) (before p : PledgeValue) (rest : List Row) {vs : Row}
    → before.agreement ≡ p.agreement → vs ≡ under b n (changing p) → IsOnly (at_pledge b n) (listed pledges_tree) (under b n (pledge_cells before)) rest
    → Executes text.SET_PLEDGE.now vs old new (Ok count) → ListsOurs new.now (with_rows listed pledges_tree (under b n (pledge_cells p) ∷ rest))
row_set old new listed st count b n before p rest agreed is only ran = let o = p.agreement.opening in
    let after : Row = under b n (pledge_cells p) in
    row_set_where 2 (record pledges { tree = pledges_tree }) pledges_place (λ _. refl) text.change_tests text.change_shows text.SET_PLEDGE.now
    (λ more. (text.texts more).change_is)
    old new (under b n (changing p)) count listed st (at_pledge b n) (others_in p) (λ r. let v =
    columns_of (plainly (record pledges { tree = pledges_tree })) r in own_where b n v (others_in p v)) (under b n (pledge_cells before)) after rest
    only.split (own_row b n (pledge_cells before)) only.none (λ none.
    let same = all_equal (number (end_of before), number (end_of p)) (beside p (under b n (pledge_cells before))) none in
    let ends = same_number (end_of before) (end_of p) same.0 in
    let held = same_number (flag_number before.standing.held) (flag_number p.standing.held) same.1.0 in
    let last = same_number before.standing.last p.standing.last same.1.1.0 in
    let closed = same_number (closed_number before.standing.closing) (closed_number p.standing.closing) same.1.1.1.0 in
    let day = same_optional (closed_day before.standing.closing) (closed_day p.standing.closing) same.1.1.1.1.0 in
    let amount = same_optional (closed_amount before.standing.closing) (closed_amount p.standing.closing) same.1.1.1.1.1.0 in
    λ i. row_with b n (agreed i)
    (number (ends i) ∷ number (held i) ∷ number (last i) ∷ number (closed i) ∷ or_null number (day i) ∷ or_null number (amount i) ∷ [])) (λ id r at cols.
    let all = cols ∙ ap (λ a. row_with b n a (changing before)) agreed in (
      Int id ∷ after,
      after,
      (λ i. at i ∷ at i ∷ column (all i) 0 ∷ column (all i) 1 ∷ column (all i) 2 ∷ column (all i) 3 ∷ column (all i) 4 ∷ column (all i) 5 ∷ column (all i) 6
          ∷ column (all i) 7 ∷ column (all i) 8 ∷ column (all i) 9 ∷ changing p),
      (λ i. cast_whole id i ∷ cast_int b i ∷ cast_int n i ∷ Text o.reference ∷ Text o.article ∷ cast_int (kind_number o.kind) i ∷ cast_int (credit_of o.kind) i
          ∷ cast_int p.agreement.taken i ∷ cast_optional o.agreed i ∷ cast_int (flag_number o.five_days) i ∷ cast_int p.agreement.version i
          ∷ cast_int (end_of p) i ∷ cast_int (flag_number p.standing.held) i ∷ cast_int p.standing.last i ∷ cast_int (closed_number p.standing.closing) i
          ∷ cast_optional (closed_day p.standing.closing) i ∷ cast_optional (closed_amount p.standing.closing) i ∷ []),
      refl,
    )) (rw is at ran)
