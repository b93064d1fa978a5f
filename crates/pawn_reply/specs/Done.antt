-- The JSON bodies of replies to commands.
use Rattle.pawn_pledge.specs.declared.command.Done.{Done}
use Rattle.pawn_pledge.specs.declared.command.Done.TheVariants.{Entered, Held, Declared, Booked, Redeemed, Sold}
use Rattle.pawn_pledge.specs.declared.command.Done.TheVariants.{Extended}
use Rattle.pawn_reply.specs.Common.{day_text, receipt_text, sort_text, state_text}
use Rattle.std.specs.Prelude.{ℕ, List, ◌++◌, codes, decimal, Bool, if◌then◌else◌}

-- an entry was made
abbrev pub entered_text : List ℕ → ℕ → ℕ → List ℕ → List ℕ
entered_text day pence seq sort =
    codes "{\"day\":\"" ++ (day ++ (codes "\",\"pence\":" ++ (decimal pence
    ++ (codes ",\"seq\":" ++ (decimal seq ++ (codes ",\"sort\":\"" ++ (sort ++ codes "\"}")))))))

-- whether the pledge is on hold
abbrev pub held_text : Bool → List ℕ
held_text held = if held then codes "{\"held\":true}" else codes "{\"held\":false}"

-- a new receipt
abbrev pub declared_text : List ℕ → List ℕ
declared_text receipt = codes "{\"receipt\":\"" ++ (receipt ++ codes "\"}")

-- a booking's state, day and window
abbrev pub booked_text : List ℕ → List ℕ → ℕ → List ℕ
booked_text state day window =
    codes "{\"booking\":\"" ++ (state ++ (codes "\",\"day\":\"" ++ (day
    ++ (codes "\",\"window\":" ++ (decimal window ++ codes "}")))))

-- the pledge is redeemed
abbrev pub redeemed_text : ℕ → List ℕ → List ℕ
redeemed_text paid day =
    codes "{\"paid\":" ++ (decimal paid ++ (codes ",\"redeemed\":\"" ++ (day ++ codes "\"}")))

-- the article is sold
abbrev pub sold_text : ℕ → ℕ → ℕ → List ℕ
sold_text net shortfall surplus =
    codes "{\"net\":" ++ (decimal net ++ (codes ",\"shortfall\":" ++ (decimal shortfall
    ++ (codes ",\"surplus\":" ++ (decimal surplus ++ codes "}")))))

-- the period ends on this day
abbrev pub extended_text : List ℕ → List ℕ
extended_text until = codes "{\"ends\":\"" ++ (until ++ codes "\"}")

-- what a command did to the pledge of this number
abbrev pub commanded_text : ℕ → Done → List ℕ
commanded_text number (Entered entry) = entered_text (day_text entry.day) entry.pence entry.seq (sort_text entry.sort)
commanded_text number (Held held) = held_text held
commanded_text number (Declared secret) = declared_text (receipt_text (record { number = number; secret = secret }))
commanded_text number (Booked booking) = booked_text (state_text booking.state) (day_text booking.day) booking.window
commanded_text number (Redeemed day paid) = redeemed_text paid (day_text day)
commanded_text number (Sold net surplus shortfall) = sold_text net shortfall surplus
commanded_text number (Extended until) = extended_text (day_text until)
