use Rattle.pawn_csv.proofs.Basics.{◌≡◌, ◌∙◌, ◌+◌, ◌<◌, ℕ, zero, suc, List, [], ◌∷◌, arith, get_or, length, subst, sym, take, take_each}
use Rattle.pawn_csv.specs.Common.{Each}
use Rattle.std.specs.Cmp.Lexicographic.{other_text}
use Rattle.pawn_csv.proofs.columns.value_of.Goals as goal

-- a property of the elements so far, and of the next one
each_more : {A : Type 0} (P : A → Type 0) (xs : List A) (i : ℕ) (x d : A) → i < length xs → x ≡ get_or xs i d → Each P (take i xs) → P x
    → Each P (take (suc i) xs)
each_more P [] i x d inside is so last = absurd (omega (arith, inside))
each_more P (y ∷ ys) zero x d inside is so last = (subst P is last, tt)
each_more P (y ∷ ys) (suc i) x d inside is so last = (so.0, each_more P ys i x d (omega (arith, inside)) is so.1 last)

pub loop-value-preserved : goal.loop-value-preserved
loop-value-preserved g c =
    let further : suc c.loop-value.value-index ≡ c.loop-value.value-index + 1 = omega arith in
    record {
      others = subst (λ (i : ℕ). Each (λ value. c.args.field.now ≡ g.A.ColumnWord.text value → ⊥) (take i c.args.values.now)) further
          (each_more _ c.args.values.now c.loop-value.value-index c.value-item.result c.value-item.result c.loop-value-test.true c.value-item.is
          c.loop-value.invariant.others
          (λ is. other_text c.column_word-word.result.now c.args.field.now (sym c.if-eq.false ∙ c.eq.ensures) (c.column_word-word.ensures.value ∙ sym is)));
    }

pub returns-clause-none : goal.returns-clause-none
returns-clause-none g c =
    let all : c.loop-value.value-index ≡ length c.args.values.now = omega (arith, c.loop-value-test.false, c.loop-value.auto.value-index-end) in
    subst (λ (xs : List _). Each (λ value. c.args.field.now ≡ g.A.ColumnWord.text value → ⊥) xs) (take_each c.args.values.now _ all)
    c.loop-value.invariant.others
