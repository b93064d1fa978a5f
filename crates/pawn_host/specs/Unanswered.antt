-- The bytes of a buffer that contracts refer to.
use Rattle.pawn_host.specs.declared.buffer.Buffer.{Buffer}
use Rattle.std.specs.Prelude.{ℕ, List, drop}

-- the bytes that were read and are not answered yet
abbrev pub unanswered : Buffer → List ℕ
unanswered u = drop u.start u.bytes.items
