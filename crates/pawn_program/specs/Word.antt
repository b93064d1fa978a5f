-- A random word of a generator's stream.
use Rattle.pawn_program.specs.declared.words.Words.{Words}
use Rattle.rand_chacha.specs.ChaCha.{ChaCha, next_word}
use Rattle.std.specs.Int.{w32, w128, to_le_bytes, from_be_bytes}
use Rattle.std.specs.Prelude.{ℕ, ◌++◌}

-- the little-endian bytes of four words in order, read as one number of 16 big-endian bytes
abbrev pub wide_word : ℕ → ℕ → ℕ → ℕ → ℕ
wide_word a b c d = from_be_bytes w128 (to_le_bytes w32 a ++ to_le_bytes w32 b ++ to_le_bytes w32 c ++ to_le_bytes w32 d)

-- the generator after one word of ChaCha20
abbrev pub after_one : ChaCha → ChaCha
after_one g = (next_word 10 g).1

abbrev pub first_word : ChaCha → ℕ
first_word g = (next_word 10 g).0

-- the random word that is made of a generator's next four words
abbrev pub word_of : ChaCha → ℕ
word_of one =
    let two = after_one one in
    let three = after_one two in
    let four = after_one three in
    wide_word (first_word one) (first_word two) (first_word three) (first_word four)

-- the generator after those four words
abbrev pub after_word : ChaCha → ChaCha
after_word g = after_one (after_one (after_one (after_one g)))

abbrev pub generator : Words → ChaCha
generator w = w.rng
