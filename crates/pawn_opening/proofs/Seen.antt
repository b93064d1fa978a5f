-- Files to which nothing was done yet.
use Rattle.pawn_opening.specs.Common.{Image}
use Rattle.sqlite_disk.specs.Events.{Event, replay, settled}
use Rattle.std.proofs.Common.{◌≡◌, ℕ, Bool, List, [], ◌∷◌, true, false, cond, ap₂}

abbrev pub image : List ℕ → List ℕ → Image
image log db = record { log = log; db = db }

abbrev pub seen : List ℕ → List ℕ → Bool → List Event → List ℕ
seen log db is_log history = (replay (cond is_log log db) history).seen

-- a log and a database file to which nothing was done yet hold what they began with
pub untouched : (log db : List ℕ) {first second : Bool} {of_first of_second : List Event} {key other : ℕ} → (first ≡ true) × (of_first ≡ settled key ∷ [])
    → (second ≡ false) × (of_second ≡ settled other ∷ []) → image (seen log db first of_first) (seen log db second of_second) ≡ image log db
untouched log db a b = ap₂ image (ap₂ (seen log db) a.0 a.1) (ap₂ (seen log db) b.0 b.1)
