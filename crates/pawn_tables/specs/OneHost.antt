-- The law that tables stand for at most one host.
use Rattle.pawn_tables.specs.Common.{Trees, Host}
use Rattle.pawn_tables.specs.StandsFor.{HoldHost}
use Rattle.std.specs.Prelude.{◌≡◌}

-- trees stand for at most one host
abbrev pub StandForOne : Type 0
StandForOne = (trees : Trees) (h g : Host) → HoldHost trees h → HoldHost trees g → h ≡ g
