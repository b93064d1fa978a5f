-- A word of 128 bits and its sixteen bytes.
use Rattle.pawn_tables.specs.Common.{from_be_bytes, to_be_bytes, w128, Value, Blob, IsWord}
use Rattle.pawn_tables.specs.Rows.{word}
use Rattle.std.proofs.Common.{◌≡◌, ℕ, List, arith, ap, sym, ◌∙◌}

pub word_of_bytes : (n : ℕ) → IsWord n → from_be_bytes w128 (to_be_bytes w128 n) ≡ n
word_of_bytes n fits = omega arith

-- what is read of a blob is the word that it shows
pub word_read : (v : Value) (items id : List ℕ) (w x : ℕ) → v ≡ Blob items → id ≡ items → w ≡ from_be_bytes w128 id → IsWord x → v ≡ word x → w ≡ x
word_read v items id w x read same is fits shown = let e : Blob items ≡ Blob (to_be_bytes w128 x) = sym read ∙ shown in
    let bytes : items ≡ to_be_bytes w128 x = cc in
    is ∙ ap (from_be_bytes w128) (same ∙ bytes) ∙ word_of_bytes x fits
