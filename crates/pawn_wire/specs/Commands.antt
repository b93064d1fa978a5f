-- The content of the JSON bodies of commands.
use Rattle.pawn_pledge.specs.declared.command.Decision.{Decision}
use Rattle.pawn_pledge.specs.declared.command.Paper.{Paper}
use Rattle.pawn_wire.specs.Chain.{and_then}
use Rattle.pawn_wire.specs.Common.{Command, Confirm, Data, Refuse, Sworn, Written}
use Rattle.pawn_wire.specs.Member.{number_at, string_at, flag_at, day_at, body_said}
use Rattle.pawn_wire.specs.Types.{BearerAction, BrokerAction, NewBooking, NewEntry}
use Rattle.std.specs.Prelude.{ℕ, List, codes, Bool, bytes_eq, if◌then◌else◌, Option, Some, None, option_map}

-- an entry to be made: its number within the pledge, and its sum in pence
abbrev pub asked_entry : Data → Option NewEntry
asked_entry d =
    and_then (number_at (codes "pence") d)
    (λ pence. and_then (number_at (codes "seq") d)
    (λ seq. Some (record { seq = seq; pence = pence })))

-- the kind of declaration: sworn or written
abbrev pub paper_named : List ℕ → Option Paper
paper_named word =
    if bytes_eq word (codes "sworn") then Some Sworn
    else if bytes_eq word (codes "written") then Some Written
    else None

abbrev pub paper_of : Data → Option Paper
paper_of d = and_then (string_at (codes "paper") d) paper_named

-- true confirms a booking, and false refuses it
abbrev pub decision_by : Bool → Decision
decision_by says_yes = if says_yes then Confirm else Refuse

abbrev pub decision_of : Data → Option Decision
decision_of d = option_map decision_by (flag_at (codes "yes") d)

-- a booking to be asked for: its day and its window
abbrev pub asked_booking : Data → Option NewBooking
asked_booking d =
    and_then (day_at (codes "day") d)
    (λ day. and_then (number_at (codes "window") d)
    (λ window. Some (record { day = day; window = window })))

-- the command for a broker's action, with the details in its body if it takes one
abbrev pub brokers_command_said : BrokerAction → List ℕ → Option Command
brokers_command_said BrokerAction.Draw body = option_map (λ entry. Command.Draw entry.seq entry.pence) (body_said asked_entry body)
brokers_command_said BrokerAction.Repay body = option_map (λ entry. Command.Repay entry.seq entry.pence) (body_said asked_entry body)
brokers_command_said BrokerAction.Hold body = Some Command.Hold
brokers_command_said BrokerAction.Release body = Some Command.Release
brokers_command_said BrokerAction.Declare body = option_map Command.Declare (body_said paper_of body)
brokers_command_said BrokerAction.Decide body = option_map Command.DecideBooking (body_said decision_of body)
brokers_command_said BrokerAction.Sell body = option_map Command.Sell (body_said (number_at (codes "net")) body)
brokers_command_said BrokerAction.Extend body = option_map Command.Extend (body_said (day_at (codes "until")) body)

-- the command for a bearer's action, with the details in its body if it takes one
abbrev pub bearers_command_said : BearerAction → List ℕ → Option Command
bearers_command_said BearerAction.Repay body = option_map (λ entry. Command.Repay entry.seq entry.pence) (body_said asked_entry body)
bearers_command_said BearerAction.Ask body = option_map (λ booking. Command.AskBooking booking.day booking.window) (body_said asked_booking body)
bearers_command_said BearerAction.Cancel body = Some Command.CancelBooking
bearers_command_said BearerAction.Redeem body = option_map Command.Redeem (body_said (number_at (codes "paid")) body)
