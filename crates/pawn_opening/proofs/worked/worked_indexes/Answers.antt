use Rattle.pawn_opening.specs.Common.{everything}
use Rattle.pawn_opening.specs.WorkedIndexes.{WorkedByEnd, WorkedByTime}
use Rattle.sqlite.specs.Compile.{index_defined_by}
use Rattle.sqlite_resolve.specs.Compile.{index_in}
use Rattle.std.proofs.Common.{refl}
use Rattle.pawn_opening.proofs.worked.worked_indexes.Goals as goal
use Rattle.sqlite_resolve.specs.Define as define

by_end : WorkedByEnd
unfolding everything index_defined_by index_in define.index define.sorted
by_end = refl

by_time : WorkedByTime
unfolding everything index_defined_by index_in define.index define.sorted
by_time = refl

pub returns : goal.returns
returns c = record { by_end = by_end; by_time = by_time }
