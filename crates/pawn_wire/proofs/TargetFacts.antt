-- The targets of the table are found, a few at a time, since each is computed.
use Rattle.matchit.proofs.OnLiterals.{matchit_on_literals}
use Rattle.pawn_base.specs.Lists.{Each}
use Rattle.pawn_wire.specs.Laws.{IsTargetFound}
use Rattle.pawn_wire.specs.Route.{table, table_rows}
use Rattle.std.proofs.Common.{ℕ, List, [], ◌∷◌, take, drop, zero, suc, refl}

pub each_part : {A : Type 0} (P : A → Type 0) (n : ℕ) (xs : List A) → Each P (take n xs) → Each P (drop n xs) → Each P xs
each_part P zero xs front rest = rest
each_part P (suc n) [] front rest = rest
each_part P (suc n) (x ∷ xs) front rest = (front.0, each_part P n xs front.1 rest)

pub first_targets : Each IsTargetFound (take 4 table)
unfolding table_rows matchit_on_literals
first_targets = (refl, (refl, (refl, (refl, tt))))

pub second_targets : Each IsTargetFound (take 4 (drop 4 table))
unfolding table_rows matchit_on_literals
second_targets = (refl, (refl, (refl, (refl, tt))))

pub third_targets : Each IsTargetFound (take 4 (drop 8 table))
unfolding table_rows matchit_on_literals
third_targets = (refl, (refl, (refl, (refl, tt))))

pub fourth_targets : Each IsTargetFound (take 4 (drop 12 table))
unfolding table_rows matchit_on_literals
fourth_targets = (refl, (refl, (refl, (refl, tt))))

pub last_targets : Each IsTargetFound (drop 16 table)
unfolding table_rows matchit_on_literals
last_targets = (refl, (refl, (refl, (refl, tt))))
