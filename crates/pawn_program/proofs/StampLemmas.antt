-- The stamps that are taken one after the other.
use Rattle.pawn_pledge.specs.declared.command.Stamp.{Stamp}
use Rattle.pawn_program.specs.Stamps.{IsTaken, GivesStamp, stamps_drawn}
use Rattle.pawn_program.specs.Word.{generator, word_of, after_word}
use Rattle.pawn_program.specs.declared.stamps.Stamps.{Stamps}
use Rattle.rand_chacha.specs.ChaCha.{ChaCha}
use Rattle.std.proofs.Common.{◌≡◌, ℕ, ◌+◌, List, [], ◌∷◌, length, refl, ap, ◌∙◌, arith}
use Rattle.std.specs.Iterator.{Yields}

pub taken_in_order : (day : ℕ) (g : ChaCha) (xs : List Stamp) (from to : Stamps) → from.day ≡ day → generator from.words.now ≡ g
    → Yields GivesStamp from xs to → xs ≡ stamps_drawn (length xs) day g
taken_in_order day g [] from to same_day same_generator run = refl
taken_in_order day g (x ∷ xs) from to same_day same_generator run =
    let next : Stamps = run.0 in
    let first : IsTaken from x next = run.1 in
    let rest : xs ≡ stamps_drawn (length xs) day (after_word g) =
    taken_in_order day (after_word g) xs next to (first.same_day ∙ same_day) (first.rest ∙ ap after_word same_generator) run.2 in
    let stamp_day : x.day ≡ day = first.day ∙ same_day in
    let stamp_word : x.word ≡ word_of g = first.word ∙ ap word_of same_generator in
    let stamp : x ≡ record { day = day; word = word_of g } = λ i. record { day = stamp_day i; word = stamp_word i } in
    λ i. stamp i ∷ rest i

pub taken_are_fewer : (xs : List Stamp) (from to : Stamps) → Yields GivesStamp from xs to → from.left ≡ length xs + to.left
taken_are_fewer [] from to run = ap (λ (s : Stamps). s.left) run ∙ omega arith
taken_are_fewer (x ∷ xs) from to run =
    let first : IsTaken from x run.0 = run.1 in
    omega (arith, first.left, taken_are_fewer xs run.0 to run.2)
