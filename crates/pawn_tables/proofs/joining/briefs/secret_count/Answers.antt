use Rattle.pawn_tables.proofs.ListEndReads.{last_place}
use Rattle.std.proofs.Common.{rules}
use Rattle.pawn_tables.proofs.joining.briefs.secret_count.Goals as goal

pub returns-in-Some : goal.returns-in-Some
returns-in-Some c = record { value = λ secrets is. let e = last_place secrets c.args.last is in search rules }

pub returns-in-None : goal.returns-in-None
returns-in-None c = record { value = λ secrets is. let e = last_place secrets c.args.last is in search rules }
