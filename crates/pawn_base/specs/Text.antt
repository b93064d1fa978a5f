-- Texts of limited length, without control characters.
use Rattle.std.specs.List.{list_all}
use Rattle.std.specs.Prelude.{ℕ, Bool, nat_le, ◌&&◌, ◌==◌, not, List, length, IsTrue}

-- the byte is not an ASCII control character
abbrev pub is_plain : ℕ → Bool
is_plain byte = nat_le 32 byte && not (byte == 127)

-- the text has 1 to `most` bytes, none of them a control character
abbrev pub is_text : ℕ → List ℕ → Bool
is_text most bytes = nat_le 1 (length bytes) && nat_le (length bytes) most && list_all is_plain bytes

-- `is_text` as a proposition
abbrev pub IsText : ℕ → List ℕ → Type 0
IsText most bytes = IsTrue (is_text most bytes)
