-- How many seconds a connection waits for its peer, and how many bytes of a key file are read.
use Rattle.pawn_program.specs.declared.key_files.TheConstants.{MOST_KEY_BYTES}
use Rattle.pawn_program.specs.declared.serving.TheConstants.{PATIENCE_SECONDS}
use Rattle.std.specs.Prelude.{◌≡◌}

-- five seconds, and 64 bytes
abbrev pub WorkedServingLimits : Type 0
WorkedServingLimits = (PATIENCE_SECONDS ≡ 5) × (MOST_KEY_BYTES ≡ 64)
