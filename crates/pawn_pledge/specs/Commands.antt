-- Which commands a request can give, and who may send them.
use Rattle.pawn_pledge.specs.Common.{IsRequestDay}
use Rattle.pawn_pledge.specs.declared.command.Command.{Command}
use Rattle.std.specs.Prelude.{Bool, false, true}

-- a command whose days a request may name
abbrev pub IsCommand : Command → Type 0
IsCommand (Command.AskBooking day window) = IsRequestDay day
IsCommand (Command.Extend until) = IsRequestDay until
IsCommand other = Unit {0}

-- a broker may send the command
abbrev pub is_brokers : Command → Bool
is_brokers (Command.Draw seq pence) = true
is_brokers (Command.Repay seq pence) = true
is_brokers Command.Hold = true
is_brokers Command.Release = true
is_brokers (Command.Declare paper) = true
is_brokers (Command.DecideBooking decision) = true
is_brokers (Command.Sell net) = true
is_brokers (Command.Extend until) = true
is_brokers other = false

-- the bearer of a live receipt may send the command
abbrev pub is_bearers : Command → Bool
is_bearers (Command.Repay seq pence) = true
is_bearers (Command.AskBooking day window) = true
is_bearers Command.CancelBooking = true
is_bearers (Command.Redeem paid) = true
is_bearers other = false
