-- The stamps of `pawnd answer`.
use Rattle.pawn_pledge.specs.declared.command.Stamp.{Stamp}
use Rattle.pawn_program.specs.Word.{generator, word_of, after_word}
use Rattle.pawn_program.specs.declared.stamps.Stamps.{Stamps}
use Rattle.rand_chacha.specs.ChaCha.{ChaCha}
use Rattle.std.specs.Iterator.{Yields}
use Rattle.std.specs.Prelude.{◌≡◌, ℕ, zero, suc, ◌+◌, ◌≤◌, List, [], ◌∷◌, length, Option, None, MatchOption}

-- a stamp was taken: it has the day of the stamps and the next word of their generator, and one stamp fewer is left
pub record IsTaken (old : Stamps) (stamp : Stamp) (new : Stamps) : Type 0 where
  pub day : stamp.day ≡ old.day
  pub word : stamp.word ≡ word_of (generator old.words.now)
  pub same_day : new.day ≡ old.day
  pub rest : generator new.words.now ≡ after_word (generator old.words.now)
  pub left : old.left ≡ new.left + 1

-- a call took a stamp, or none was left
abbrev pub GivesStamp : Stamps → Option Stamp → Stamps → Type 0
GivesStamp old given new = MatchOption given ((old.left ≡ 0) × (new ≡ old)) (λ stamp. IsTaken old stamp new)

-- this many stamps of a day, with the words of a generator in order
abbrev pub stamps_drawn : ℕ → ℕ → ChaCha → List Stamp
stamps_drawn zero day g = []
stamps_drawn (suc more) day g = record { day = day; word = word_of g } ∷ stamps_drawn more day (after_word g)

-- The stamps that are taken one after the other have this day and the words of this generator. There are at most
-- `most`, and a call returns none only after all of them were taken.
pub record AreStamps (most day : ℕ) (g : ChaCha) (from : Stamps) : Type 0 where
  pub taken : (xs : List Stamp) (to : Stamps) → Yields GivesStamp from xs to → xs ≡ stamps_drawn (length xs) day g
  pub few : (xs : List Stamp) (to : Stamps) → Yields GivesStamp from xs to → length xs ≤ most
  pub last : (xs : List Stamp) (to end : Stamps) → Yields GivesStamp from xs to → GivesStamp to None end → length xs ≡ most
