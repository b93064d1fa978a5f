-- Stamps whose days are those of a clock.
use Rattle.pawn_pledge.specs.declared.command.Stamp.{Stamp}
use Rattle.pawn_program.specs.Word.{generator, word_of, after_word}
use Rattle.pawn_program.specs.declared.clock.ClockStamps.{ClockStamps}
use Rattle.pawn_terms.specs.Calendar.{first_day, last_request_day}
use Rattle.std.specs.Prelude.{◌≡◌, ℕ, ◌/◌, ◌&&◌, nat_le, if◌then◌else◌, Option, Some, None, MatchOption}
use Rattle.std.specs.Prelude.{option_and_then}

abbrev pub seconds_a_day : ℕ
seconds_a_day = 86400

-- the day with this number, if a request may have it
abbrev pub as_request_day : ℕ → Option ℕ
as_request_day day = if nat_le first_day day && nat_le day last_request_day then Some day else None

-- the day at this many seconds after the beginning of 1970, if a request may have it
abbrev pub clock_day : ℕ → Option ℕ
clock_day seconds = as_request_day (seconds / seconds_a_day)

-- the day of a reading of the clock, if a request may have it
abbrev pub day_of : Option ℕ → Option ℕ
day_of reading = option_and_then clock_day reading

-- A call read the clock once. If a request may have the day of the reading, the call returned a stamp of that day with
-- the next word. Otherwise it returned none, and took no word.
pub record GivesDated {C : Type 0} (reads : C → Option ℕ → C → Type 0) (old : ClockStamps C) (given : Option Stamp) (new : ClockStamps C) : Type 0 where
  pub reading : Option ℕ
  pub read : reads old.clock reading new.clock
  pub day : MatchOption given (day_of reading ≡ None) (λ stamp. day_of reading ≡ Some stamp.day)
  pub word : MatchOption given (new.words ≡ old.words)
      (λ stamp. (stamp.word ≡ word_of (generator old.words)) × (generator new.words ≡ after_word (generator old.words)))
