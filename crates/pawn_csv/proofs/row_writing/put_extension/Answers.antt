use Rattle.pawn_csv.proofs.row_writing.put_extension.Goals as goal

pub returns : goal.returns
returns g c = record {
  puts =
      rw (c.as_bytes.ensures.value, c.format.ensures.text, c.as_bytes-2.ensures.value, c.format-2.ensures.text, c.text.ensures.value, c.text-2.ensures.value) at
      c.put_padded.ensures.puts;
}
