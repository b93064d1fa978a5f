use Rattle.std.proofs.Common.{ℕ, ◌≡◌, List, [], ◌∷◌, ◌++◌, length, get_or, arith, refl}
use Rattle.pawn_program.proofs.words.join_words.Goals as goal

four : (a : List ℕ) → length a ≡ 4 → a ≡ get_or a 0 0 ∷ get_or a 1 0 ∷ get_or a 2 0 ∷ get_or a 3 0 ∷ []
four [] e = absurd (omega arith)
four (x ∷ []) e = absurd (omega arith)
four (x ∷ y ∷ []) e = absurd (omega arith)
four (x ∷ y ∷ z ∷ []) e = absurd (omega arith)
four (x ∷ y ∷ z ∷ w ∷ []) e = refl
four (x ∷ y ∷ z ∷ w ∷ v ∷ a) e = absurd (omega arith)

joined : (a b c d : List ℕ) → length a ≡ 4 → length b ≡ 4 → length c ≡ 4 → length d ≡ 4
    → (get_or a 0 0 ∷ get_or a 1 0 ∷ get_or a 2 0 ∷ get_or a 3 0 ∷ get_or b 0 0 ∷ get_or b 1 0 ∷ get_or b 2 0 ∷ get_or b 3 0 ∷ get_or c 0 0 ∷ get_or c 1 0
    ∷ get_or c 2 0 ∷ get_or c 3 0 ∷ get_or d 0 0 ∷ get_or d 1 0 ∷ get_or d 2 0 ∷ get_or d 3 0 ∷ []) ≡ a ++ b ++ c ++ d
joined a b c d p q r s = rw (four a p, four b q, four c r, four d s) refl

pub returns : goal.returns
returns c = record { bytes = joined c.args.a c.args.b c.args.c c.args.d c.requires.a c.requires.b c.requires.c c.requires.d }
