-- What contracts state about a `Writing`, and when a text counts as written.
use Rattle.pawn_book.specs.Visits.{End, Front, Whole}
use Rattle.pawn_book.specs.declared.visit.Flow.{Flow}
use Rattle.pawn_book.specs.declared.visit.Flow.TheVariants.{Go, Stop}
use Rattle.pawn_writing.specs.declared.writing.Writing.{Writing}
use Rattle.std.specs.Io.KnownBytes.{Appends}
use Rattle.std.specs.Prelude.{ℕ, Bool, true, false, List, [], ◌∷◌, ◌++◌, ◌==◌, ◌≡◌, Option, Result, Ok, Err}
use Rattle.std.specs.Prelude.{if◌then◌else◌}

-- the inner writer
abbrev pub writing_inner : {W : Type 0} → Writing W → W
writing_inner w = w.inner

-- a write failed: it returned an error, or it wrote no byte although some were passed
abbrev pub write_failed : {W : Type 0} → Writing W → Bool
write_failed w = w.failed

-- the bytes that were written, if the writer's contract determines them
abbrev pub written_bytes : {W : Type 0} → (W → Option (List ℕ)) → Writing W → Option (List ℕ)
written_bytes contents w = contents w.inner

-- the write returned an error, or wrote no byte although some were passed
abbrev pub is_write_failure : {E : Type 0} → Result ℕ E → List ℕ → Bool
is_write_failure (Err e) bytes = true
is_write_failure (Ok n) [] = false
is_write_failure (Ok n) (b ∷ bytes) = n == 0

-- a prefix of the text was written, possibly none or all of it
abbrev pub PutFront : {W : Type 0} → (W → Option (List ℕ)) → Writing W → List ℕ → Writing W → Type 0
PutFront contents old text new = (out : List ℕ) × (rest : List ℕ) × (out ++ rest ≡ text) × Appends (written_bytes contents old) (written_bytes contents new) out

-- the whole text was written, or only a prefix of it if the writer failed
abbrev pub Written : {W : Type 0} → (W → Option (List ℕ)) → Writing W → List ℕ → End → Writing W → Type 0
Written contents old text Whole new = Appends (written_bytes contents old) (written_bytes contents new) text × (write_failed new ≡ false)
Written contents old text Front new = PutFront contents old text new × (write_failed new ≡ true)

-- how a text ends: only a prefix of it was written if the writer failed
abbrev pub end_by : Bool → End
end_by true = Front
end_by false = Whole

-- the whole text was written, or only a prefix of it if the writer failed; a writer that had failed before writes
-- nothing
pub record Puts {W : Type 0} (contents : W → Option (List ℕ)) (old : Writing W) (text : List ℕ) (new : Writing W) : Type 0 where
  pub failed : write_failed old ≡ true → new ≡ old
  pub fine : write_failed old ≡ false → Written contents old text (end_by (write_failed new)) new

-- a prefix of the text was written; it is the whole text if the calls on the way succeeded and the writing has not
-- ended
abbrev pub Share : {S : Type 0} → (S → List ℕ → S → Type 0) → (S → Bool) → S → List ℕ → End → S → Type 0
Share Puts has_ended old text end new =
    (out : List ℕ) × (rest : List ℕ) × (out ++ rest ≡ text) × Puts old out new × (has_ended new ≡ false → end ≡ Whole → rest ≡ [])

-- a writer as a visitor: it writes a line for each item, and stops once it has failed
abbrev pub PutsLine : {W T : Type 0} → (W → Option (List ℕ)) → (T → List ℕ) → Writing W → T → Flow → Writing W → Type 0
PutsLine contents line v x flow w = Puts contents v (line x) w × (flow ≡ (if write_failed w then Stop else Go))

-- a prefix of the text was written; it is the whole text if the calls on the way succeeded and the writer has not
-- failed
abbrev pub PutsShare : {W : Type 0} → (W → Option (List ℕ)) → Writing W → List ℕ → End → Writing W → Type 0
PutsShare contents old text end new = Share (Puts contents) write_failed old text end new
