-- The router's answer as a value.
use Rattle.pawn_wire.specs.Route.{AskedFor}
use Rattle.pawn_wire.specs.Types.{Asked}
use Rattle.std.specs.Prelude.{option_copied}

-- the router's answer, with its texts as bytes
abbrev pub endpoint_and_texts : Asked → AskedFor
endpoint_and_texts a = record { endpoint = a.endpoint; book = option_copied a.book; item = option_copied a.item }
