-- The words for the kinds of entry.
use Rattle.pawn_debt.specs.declared.entry.Sort.{Sort}
use Rattle.pawn_debt.specs.declared.entry.Sort.TheVariants.{Draw, Repay}
use Rattle.std.specs.Prelude.{ℕ, List, codes}

-- the word in replies, statements and CSV
abbrev pub sort_text : Sort → List ℕ
sort_text Draw = codes "draw"
sort_text Repay = codes "repay"
