-- What tables stand for once a change is written and its rows are counted.
use Rattle.pawn_book.specs.declared.fault.KeepError.{KeepError}
use Rattle.pawn_saving.proofs.Basics.{clean_before}
use Rattle.pawn_saving.proofs.Hosting.{are_ordered, are_storable, as_stands}
use Rattle.pawn_saving.specs.Common.{Database, changed_book, CanSave, book_number, with_change, with_book, Change}
use Rattle.pawn_saving.specs.Counted.{IsWrittenPart, ListsHost, Counts, WritesRows}
use Rattle.pawn_tables.specs.Common.{get, BookValue, Host, rows, IsSound, HasCleanDisk, IsLent, State}
use Rattle.pawn_tables.specs.StandsFor.{StandsFor}
use Rattle.std.proofs.Common.{◌≡◌, ◌+◌, ◌≤◌, ◌<◌, ◌↔◌, ℕ, Bool, true, false, Option, Some, None, Ok, IsTrue, refl, sym}
use Rattle.std.proofs.Common.{subst, arith}

limit_with : (h : Host) (b : ℕ) (o : Option BookValue) → (with_book h b o).limit ≡ h.limit
limit_with h b None = refl
limit_with h b (Some k) = refl

-- a change keeps the limit
pub limit_after : (h : Host) (change : Change) → (with_change h change).limit ≡ h.limit
limit_after h change = limit_with h (book_number change) (changed_book (get h.books (book_number change)) change)

few_before : (h : Host) (change : Change) → IsSound h → rows h ≤ (with_change h change).limit
few_before h change sound = let same = limit_after h change in let few = sound.fits in omega (arith, same, few)

module _ (h : Host) (change : Change) (mid db : Database) (added : ℕ) (fits : Bool) (can : CanSave h change)
    (w : IsWrittenPart h (with_change h change) mid added)
    (counts : (IsTrue fits ↔ (rows h + added ≤ (with_change h change).limit)) × ListsHost db (with_change h change) (rows h + added)) where
  stands_after : fits ≡ true → StandsFor db (with_change h change) × (rows (with_change h change) ≤ h.limit)
  stands_after is = (
    as_stands db (with_change h change) (subst (ListsHost db (with_change h change)) (sym w.grown) counts.1) (are_ordered (with_change h change) can.sound)
        (are_storable (with_change h change) can.sound),
    let few = counts.0.0 is in let same = limit_after h change in let grown = w.grown in omega (arith, few, same, grown),
  )

  full_after : fits ≡ false → h.limit < rows (with_change h change)
  full_after is = let same = limit_after h change in
      let grown = w.grown in
      let more : rows h + added ≤ (with_change h change).limit → ⊥ = λ few. absurd (let yes' = counts.0.1 few in let e = sym yes' in cc) in
      omega (arith, more, same, grown)

-- what the count within the limit implies of a change, once its rows are written
pub counted_within : (old mid new : State) (change : Change) (added : ℕ) (fits : Bool) → IsLent old mid true
    → WritesRows {E = KeepError} old mid change (Ok added) → IsLent mid new true → Counts {E = KeepError} mid new added (Ok fits)
    → HasCleanDisk new → IsTrue old.in_transaction → (h : Host) → IsSound h → (IsTrue old.is_open → CanSave h change × StandsFor old.now h) → (fits ≡ true
    → StandsFor new.now (with_change h change) × (rows (with_change h change) ≤ h.limit)) × (fits ≡ false → h.limit < rows (with_change h change))
counted_within old mid new change added fits first wrote second counts clean within h sound stood = let was = clean_before mid new true second clean in
    let s = stood (first.opened was within refl) in let w = wrote was within h sound s.0 s.1 in
    let counted = counts clean (first.inside was within refl) (with_change h change) (rows h) (few_before h change sound) w.lists in
    (stands_after h change mid.now new.now added fits s.0 w counted, full_after h change mid.now new.now added fits s.0 w counted)
