-- How the schemas of a migrated store are printed.
use Rattle.pawnd.specs.declared.moving.Schemas.{Schemas}
use Rattle.std.specs.Prelude.{ℕ, List, ◌++◌, codes, decimal}

-- the line on the standard output
abbrev pub moved_line : Schemas → List ℕ
moved_line schemas = codes "schema " ++ decimal schemas.found ++ codes " to " ++ decimal schemas.program
