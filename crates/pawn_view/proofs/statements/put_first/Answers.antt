use Rattle.pawn_writing.proofs.PutLemmas.{puts_then}
use Rattle.pawn_view.proofs.statements.put_first.Goals as goal

pub returns : goal.returns
returns g c = record {
  puts = rw (c.get.ensures.value, c.as_str.ensures.value, c.fields-fields.ensures.value) at (puts_then c.put_number.ensures.puts
      (puts_then c.put_text.ensures.puts (puts_then c.put_kind.ensures.puts (puts_then c.put_day.ensures.puts c.put_day-2.ensures.puts))));
}
