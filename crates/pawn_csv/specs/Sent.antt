-- What contracts state about a writer of rows, and when a text counts as written.
use Rattle.pawn_csv.specs.Common.{End, default_writer, row_text}
use Rattle.pawn_csv.specs.Rows.{row_fields}
use Rattle.pawn_csv.specs.Types.{Row, Sink}
use Rattle.pawn_writing.specs.Ends.{Share, Written, end_by, write_failed}
use Rattle.pawn_writing.specs.declared.writing.Writing.{Writing}
use Rattle.std.specs.Prelude.{ℕ, Bool, true, false, List, ◌||◌, ◌≡◌, Option}

-- the writer failed, or memory ran out for a row
abbrev pub has_ended : {W : Type 0} → Sink W → Bool
has_ended sink = write_failed sink.writer || sink.is_starved

-- a sink seen as a `Writing`; it counts as failed once a row was not written completely
abbrev pub seen : {W : Type 0} → Sink W → Writing W
seen sink = record { inner = sink.writer.inner; failed = has_ended sink }

-- the whole text was written, or only a prefix of it if the row was not written completely; after that nothing is
-- written
pub record PutsRow {W : Type 0} (contents : W → Option (List ℕ)) (old : Sink W) (text : List ℕ) (new : Sink W) : Type 0 where
  pub ended : has_ended old ≡ true → new ≡ old
  pub fine : has_ended old ≡ false → Written contents (seen old) text (end_by (has_ended new)) (seen new)

-- a prefix of the text was written; it is the whole text if the calls on the way succeeded and each row was written
-- completely
abbrev pub PutsRowsShare : {W : Type 0} → (W → Option (List ℕ)) → Sink W → List ℕ → End → Sink W → Type 0
PutsRowsShare contents old text end new = Share (PutsRow contents) has_ended old text end new

-- the text of a row
abbrev pub text_of_row : Row → List ℕ
text_of_row row = row_text default_writer (row_fields row)
