-- The text of a book, read back.
use Rattle.csv.proofs.RoundTrip.{read-write}
use Rattle.pawn_csv.proofs.Basics.{◌≡◌, ◌++◌, ◌∷◌, [], List, refl, map, ℕ, None}
use Rattle.pawn_csv.specs.Common.{BookRows, Reached, default_config, default_writer, escaped, fields_text, flat_map}
use Rattle.pawn_csv.specs.Common.{is_blank, next_record, read_back, row_text, strip_bom, State}
use Rattle.pawn_csv.specs.Reading.{FitsVersion, IsTextOf}
use Rattle.pawn_csv.specs.Rows.{csv_of, header, row_fields, book_csv_rows}
use Rattle.pawn_csv.specs.Types.{Row, Version}

-- a record of more than one column is read as it is
row_back : (r : Row) → read_back (row_fields r) ≡ row_fields r
row_back (Row.Book v t p) = refl
row_back r = refl

-- written records are read back
rows_reached : (rows : List Row)
    → Reached default_config State.StartRecord (flat_map (row_text default_writer) (map row_fields rows)) (map row_fields rows) State.StartRecord []
unfolding Reached
rows_reached [] = (refl, refl)
rows_reached (r ∷ rs) = (
  (row_fields r, State.StartRecord, flat_map (row_text default_writer) (map row_fields rs)),
  (rw (row_back r) at (read-write (row_fields r) (flat_map (row_text default_writer) (map row_fields rs)))),
  refl,
  rows_reached rs,
)

at_end : next_record default_config State.StartRecord [] [] [] ≡ None
unfolding next_record
at_end = refl

-- no byte order mark
no_mark : (rest : List ℕ) → strip_bom (row_text default_writer header ++ rest) ≡ row_text default_writer header ++ rest
unfolding strip_bom escaped fields_text is_blank
no_mark rest = refl

-- the text of a book that can be written as a text
pub held_texts_are_read : (k : BookRows) → FitsVersion Version.Two k → IsTextOf (strip_bom (csv_of k)) k
unfolding Reached
held_texts_are_read k held =
    let tail = flat_map (row_text default_writer) (map row_fields (book_csv_rows Version.Two k)) in (
      Version.Two,
      rw (no_mark tail)
          (State.StartRecord, [], ((header, State.StartRecord, tail), read-write header tail, refl, rows_reached (book_csv_rows Version.Two k)), at_end),
      held,
    )
