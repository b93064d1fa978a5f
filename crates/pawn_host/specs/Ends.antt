-- What contracts state about a `Reading`.
use Rattle.pawn_host.specs.declared.reading.Reading.{Reading}
use Rattle.std.specs.Prelude.{ℕ, Bool, List, Option}

-- the inner reader
abbrev pub reading_inner : {R : Type 0} → Reading R → R
reading_inner r = r.inner

-- how many reads were made
abbrev pub reads : {R : Type 0} → Reading R → ℕ
reads r = r.count

-- a read returned an error
abbrev pub read_failed : {R : Type 0} → Reading R → Bool
read_failed r = r.failed

-- the bytes that are left to read, if the reader's contract determines them
abbrev pub left_of : {R : Type 0} → (R → Option (List ℕ)) → Reading R → Option (List ℕ)
left_of remaining r = remaining r.inner
