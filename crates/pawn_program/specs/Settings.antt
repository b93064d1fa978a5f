-- How the words of the command line are read as settings.
use Rattle.pawn_program.specs.KeyFiles.{GivesKey, ReadsFile}
use Rattle.pawn_program.specs.declared.fault.SettingsFault.{SettingsFault}
use Rattle.pawn_program.specs.declared.fault.SettingsFault.TheVariants.{BadDay, BadSeed, BadPort}
use Rattle.pawn_program.specs.declared.settings.ServeSettings.{ServeSettings}
use Rattle.pawn_program.specs.declared.settings.Settings.{Settings}
use Rattle.pawn_terms.specs.Calendar.{IsRequestDay, day_text}
use Rattle.std.specs.Char.{is_digit, digit_value}
use Rattle.std.specs.Prelude.{◌≡◌, ℕ, ◌⊎◌, ◌+◌, ◌*◌, ◌≤◌, ◌==◌, List, [], ◌∷◌, length, if◌then◌else◌, Option, Some}
use Rattle.std.specs.Prelude.{None, option_and_then, option_map, IsSome, Result, Ok, Err, MatchResult, decimal}

-- the value of a hexadecimal digit of either case
abbrev pub hex_digit : ℕ → Option ℕ
hex_digit digit = if is_digit digit 16 then Some (digit_value digit) else None

-- the byte that two hexadecimal digits write
abbrev pub hex_byte : ℕ → ℕ → Option ℕ
hex_byte high low = option_and_then (λ h. option_map (λ l. h * 16 + l) (hex_digit low)) (hex_digit high)

-- the bytes that hexadecimal digits write, two by two
abbrev pub hex_bytes : List ℕ → Option (List ℕ)
hex_bytes [] = Some []
hex_bytes (high ∷ []) = None
hex_bytes (high ∷ low ∷ digits) =
    option_and_then (λ byte. option_map (λ bytes. byte ∷ bytes) (hex_bytes digits)) (hex_byte high low)

-- the seed that 64 hexadecimal digits write
abbrev pub seed_of : List ℕ → Option (List ℕ)
seed_of text = if length text == 64 then hex_bytes text else None

-- the text is the spelling of a day that a request may have
abbrev pub SaysDay : List ℕ → ℕ → Type 0
SaysDay text day = IsRequestDay day × (text ≡ day_text day)

-- the three words give these settings
pub record AreSaid (Gives : Result ℕ SettingsFault → Type 0) (day_word seed_word : List ℕ) (settings : Settings) : Type 0 where
  pub day : SaysDay day_word settings.day
  pub seed : seed_of seed_word ≡ Some settings.seed
  pub operator : Gives (Ok settings.operator)

-- the text is not the spelling of such a day
abbrev pub SaysNoDay : List ℕ → Type 0
SaysNoDay text = (day : ℕ) → SaysDay text day → ⊥

-- The fault is that of the first of the three words that has one. If it is one of the first two words, no file is read.
abbrev pub IsFirstSettingsFault : (Result ℕ SettingsFault → Type 0) → Type 0 → List ℕ → List ℕ → SettingsFault → Type 0
IsFirstSettingsFault Gives IsUnread day_word seed_word fault =
    ((fault ≡ BadDay) × SaysNoDay day_word × IsUnread)
    ⊎ ((fault ≡ BadSeed) × ((day : ℕ) × SaysDay day_word day) × (seed_of seed_word ≡ None) × IsUnread)
    ⊎ (Gives (Err fault) × ((day : ℕ) × SaysDay day_word day) × IsSome (seed_of seed_word))

-- three words give these settings, or have this first fault
abbrev pub AreSettings : {F : Type 0} → ReadsFile F → F → F → List ℕ → List ℕ → List ℕ → Result Settings SettingsFault → Type 0
AreSettings reads old new day_word seed_word key_word said =
    MatchResult said (AreSaid (GivesKey reads old new key_word) day_word seed_word)
    (IsFirstSettingsFault (GivesKey reads old new key_word) (new ≡ old) day_word seed_word)

-- the text is the spelling of a port: a number from 1 to 65535, in decimal digits
abbrev pub SaysPort : List ℕ → ℕ → Type 0
SaysPort text port = (1 ≤ port) × (port ≤ 65535) × (text ≡ decimal port)

-- the text is not the spelling of a port
abbrev pub SaysNoPort : List ℕ → Type 0
SaysNoPort text = (port : ℕ) → SaysPort text port → ⊥

-- the two words give these settings
pub record AreServeSaid (Gives : Result ℕ SettingsFault → Type 0) (port_word : List ℕ) (settings : ServeSettings) : Type 0 where
  pub port : SaysPort port_word settings.port
  pub operator : Gives (Ok settings.operator)

-- The fault is that of the first of the two words that has one. If it is the first word, no file is read.
abbrev pub IsFirstServeFault : (Result ℕ SettingsFault → Type 0) → Type 0 → List ℕ → SettingsFault → Type 0
IsFirstServeFault Gives IsUnread port_word fault =
    ((fault ≡ BadPort) × SaysNoPort port_word × IsUnread)
    ⊎ (Gives (Err fault) × ((port : ℕ) × SaysPort port_word port))

-- two words give these settings, or have this first fault
abbrev pub IsServeRead : {F : Type 0} → ReadsFile F → F → F → List ℕ → List ℕ → Result ServeSettings SettingsFault → Type 0
IsServeRead reads old new port_word key_word said =
    MatchResult said (AreServeSaid (GivesKey reads old new key_word) port_word)
    (IsFirstServeFault (GivesKey reads old new key_word) (new ≡ old) port_word)
