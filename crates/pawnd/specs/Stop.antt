-- How the program reports that it did not do what it was asked.
use Rattle.pawnd.specs.declared.stop.Stop.{Stop}
use Rattle.pawnd.specs.declared.stop.Stop.TheVariants.{Usage, Fault, Io}
use Rattle.std.specs.Prelude.{ℕ, List, ◌++◌, codes}
use Rattle.pawnd.specs.Fault as fault

-- the exit status
abbrev pub stop_status : Stop → ℕ
stop_status Usage = 2
stop_status (Fault why) = 1
stop_status Io = 3

-- the line on the standard error
abbrev pub stop_line : Stop → List ℕ
stop_line Usage = codes "usage: pawnd answer|serve|migrate|check"
stop_line (Fault why) = codes "fault " ++ fault.fault_line why
stop_line Io = codes "fault io"
