use Rattle.pawn_writing.proofs.PutLemmas.{puts_then}
use Rattle.pawn_view.proofs.lines.put_owing.Goals as goal

pub returns : goal.returns
returns g c = record { puts = puts_then c.put_amount.ensures.puts (puts_then c.put_amount-2.ensures.puts c.put_amount-3.ensures.puts) }
