-- The empty host is sound.
use Rattle.pawn_base.proofs.ListLemmas.{no_elements}
use Rattle.pawn_book.proofs.Sounds.{absurd_none}
use Rattle.pawn_book.specs.BookStep.{BookValue}
use Rattle.pawn_book.specs.HostStep.{book_row_count, rows}
use Rattle.pawn_opening.specs.Opened.{empty_host}
use Rattle.pawn_store.specs.Running.{EmptyHostIsSound}
use Rattle.std.proofs.Common.{◌≡◌, ◌∙◌, ℕ, [], map, sym, ap, arith, sum_by}
use Rattle.std.specs.FinMap.{empty, entries, get-empty, len-empty, len-entries}
use Rattle.std.specs.Ordering.{nat_cmp}

no_rows : (limit : ℕ) → rows (empty_host limit) ≡ 0
no_rows limit =
    let none : entries (empty {X = BookValue} {R = nat_cmp}) ≡ [] =
    no_elements _ (sym (len-entries (empty {X = BookValue} {R = nat_cmp})) ∙ len-empty nat_cmp BookValue) in
    ap (λ es. sum_by book_row_count (map (λ e. e.1) es)) none

pub empty_sound : EmptyHostIsSound
empty_sound limit =
    let none = no_rows limit in
    record { books = λ b book is. absurd_none (sym (get-empty nat_cmp b) ∙ is); fits = omega (arith, none) }
