-- The value of a `ListKeep` in contracts.
use Rattle.pawn_list_keeper.specs.Common.{BookValue, List, ℕ}

-- books with their numbers, and the limit on their rows
pub record Books : Type 0 where
  pub books : List (ℕ × BookValue)
  pub limit : ℕ
