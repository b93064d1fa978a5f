-- The line of a check's counts, and what it states about a host.
use Rattle.pawn_book.specs.HostStep.{Host}
use Rattle.pawn_book.specs.Sound.{AreSound}
use Rattle.pawn_book.specs.Visits.{Front, Whole}
use Rattle.pawn_check.specs.Checking.{AreCounted, Blames}
use Rattle.pawn_check.specs.declared.counts.Counts.{Counts}
use Rattle.pawn_check.specs.declared.fault.LineFault.{LineFault}
use Rattle.pawn_check.specs.declared.fault.LineFault.TheVariants.{Check, Write}
use Rattle.pawn_writing.specs.Ends.{Written}
use Rattle.pawn_writing.specs.declared.writing.Writing.{Writing}
use Rattle.std.specs.Prelude.{◌≡◌, ◌++◌, ℕ, List, Option, Result, Ok, Err, codes, decimal}

-- the line with the numbers of books, pledges and rows
abbrev pub counts_line : Counts → List ℕ
counts_line counts =
    codes "books " ++ decimal counts.books ++ codes " pledges " ++ decimal counts.pledges ++ codes " rows " ++ decimal counts.rows ++ codes "\n"

-- the books of the host are sound and have these counts
abbrev pub HasCounts : Host → Counts → Type 0
HasCounts h counts = AreSound h × AreCounted h counts

-- Ok: the line of the right counts is written. Write: the beginning of that line is written. Check: nothing is written,
-- and the fault is as `Blames` says.
abbrev pub WritesCounts : {W : Type 0} → (W → Option (List ℕ)) → Writing W → Writing W → Host → Result (Unit {0}) LineFault → Type 0
WritesCounts contents old new h (Ok done) = (counts : Counts) × HasCounts h counts × Written contents old (counts_line counts) Whole new
WritesCounts contents old new h (Err Write) = (counts : Counts) × HasCounts h counts × Written contents old (counts_line counts) Front new
WritesCounts contents old new h (Err (Check why)) = Blames h why × (new ≡ old)
