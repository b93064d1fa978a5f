-- The operator's key, on the command line or in a file.
use Rattle.pawn_pledge.specs.Secret.{secret_of_text}
use Rattle.pawn_program.specs.declared.fault.SettingsFault.{SettingsFault}
use Rattle.pawn_program.specs.declared.fault.SettingsFault.TheVariants.{BadKey, Memory}
use Rattle.pawn_program.specs.declared.key_files.KeyFileFault.{KeyFileFault}
use Rattle.std.specs.List.{ends_with}
use Rattle.std.specs.Prelude.{◌≡◌, ℕ, ◌-◌, nat_eq, Bool, List, length, take, codes, if◌then◌else◌, Option, Some, None}
use Rattle.std.specs.Prelude.{MatchOption, Result, Ok, Err}
use Rattle.pawn_program.specs.declared.key_files.KeyFileFault.TheVariants as File

-- the bytes end with these
abbrev pub ends_in : List ℕ → List ℕ → Bool
ends_in end bytes = ends_with nat_eq bytes end

-- the bytes without the last n
abbrev pub all_but_last : ℕ → List ℕ → List ℕ
all_but_last n bytes = take (length bytes - n) bytes

-- a line without its end, which is CR LF or LF
abbrev pub without_line_end : List ℕ → List ℕ
without_line_end bytes =
    if ends_in (codes "\r\n") bytes then all_but_last 2 bytes
    else if ends_in (codes "\n") bytes then all_but_last 1 bytes
    else bytes

-- the key that a file's bytes write, with or without a line end
abbrev pub key_of_bytes : List ℕ → Option ℕ
key_of_bytes bytes = secret_of_text (without_line_end bytes)

-- what a call may find in the file at a path
abbrev pub ReadsFile : Type 0 → Type 1
ReadsFile F = F → List ℕ → Result (List ℕ) KeyFileFault → F → Type 0

-- the key, or `BadKey` if the bytes write none
abbrev pub key_or_none : Option ℕ → Result ℕ SettingsFault
key_or_none (Some key) = Ok key
key_or_none None = Err BadKey

-- the key in a file that was read, or why there is none
abbrev pub key_in : Result (List ℕ) KeyFileFault → Result ℕ SettingsFault
key_in (Ok bytes) = key_or_none (key_of_bytes bytes)
key_in (Err File.Memory) = Err Memory
key_in (Err File.Unreadable) = Err BadKey

-- the word is a key, or otherwise the path of a file, which is read once
abbrev pub GivesKey : {F : Type 0} → ReadsFile F → F → F → List ℕ → Result ℕ SettingsFault → Type 0
GivesKey reads old new word given =
    MatchOption (secret_of_text word)
    ((found : Result (List ℕ) KeyFileFault) × reads old word found new × (given ≡ key_in found))
    (λ key. (given ≡ Ok key) × (new ≡ old))
