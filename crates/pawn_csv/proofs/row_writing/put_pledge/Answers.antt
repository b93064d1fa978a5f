use Rattle.pawn_csv.proofs.row_writing.put_pledge.Goals as goal

pub returns : goal.returns
returns g c = record {
  puts = rw (
    c.get.ensures.value,
    c.as_str.ensures.value,
    c.as_str-2.ensures.value,
    c.credit.ensures.value,
    c.agreed_end.ensures.value,
    c.closing_word.ensures.value,
    c.closing_day.ensures.value,
    c.closing_amount.ensures.value,
  ) at
      (rw (
        c.as_bytes-4.ensures.value,
        c.format-2.ensures.text,
        c.text.ensures.value,
        c.day_if_any.ensures.value,
        c.column_word-2.ensures.value,
        c.as_bytes-5.ensures.value,
        c.format-3.ensures.text,
        c.column_word-3.ensures.value,
        c.text-2.ensures.value,
        c.column_word-4.ensures.value,
        c.day_if_any-2.ensures.value,
        c.number_if_any.ensures.value,
      ) at (rw (
        c.as_bytes.ensures.value,
        c.format.ensures.text,
        c.as_bytes-2.ensures.value,
        c.as_bytes-3.ensures.value,
        c.column_word.ensures.value,
      ) at c.put_row.ensures.puts));
}
