use Rattle.pawn_writing.proofs.PutLemmas.{puts_then}
use Rattle.pawn_view.proofs.statements.put_state.Goals as goal

pub returns : goal.returns
returns g c = record {
  puts = rw (c.status-status.ensures.value, c.owing-owing.ensures.value, c.fields.ensures.value) at (puts_then c.put_status.ensures.puts
      (puts_then c.put_owed.ensures.puts (puts_then c.put_held.ensures.puts (puts_then c.put_booking.ensures.puts c.put_closing.ensures.puts))));
}
