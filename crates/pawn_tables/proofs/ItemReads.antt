-- A row of any kind, by what is read of a row of its kind.
use Rattle.pawn_book.specs.Items.{item_number}
use Rattle.pawn_book.specs.declared.items.RowItem.{RowItem}
use Rattle.pawn_tables.specs.Common.{Booking, Entry, Extension, IsDayNumber, IsWord, Issued, KeepError, PledgeItem, Row}
use Rattle.pawn_tables.specs.Entries.{IsEntryDecodable}
use Rattle.pawn_tables.specs.Finding.{IsRead}
use Rattle.pawn_tables.specs.Kinds.{AreCellsDecodable, CanBeRead, IsOwnDecodable, cells_of, item_cells, row_kind}
use Rattle.pawn_tables.specs.Kinds.{own_cells}
use Rattle.pawn_tables.specs.Rows.{booking_cells, entry_cells, extension_cells, number, secret_cells}
use Rattle.pawn_tables.specs.declared.kinds.RowKind.{RowKind}
use Rattle.std.proofs.Common.{◌≡◌, ◌++◌, ◌∷◌, ◌∙◌, [], ℕ, Option, Some, None, Result, append-nil, subst, sym}

-- what was read of a row of this kind and this pledge
abbrev pub ReadsKind : RowKind → ℕ → Row → Result RowItem KeepError → Type 0
ReadsKind kind n row r = (i : RowItem) (more : Row) → row_kind i ≡ kind → item_number i ≡ n → CanBeRead i → row ≡ item_cells i ++ more
    → IsRead r i (AreCellsDecodable i)

module _ (n : ℕ) (row : Row) (r : Result RowItem KeepError) where
  pub own_read : ((q : PledgeItem) (more : Row) → q.number ≡ n → row ≡ own_cells q ++ more → IsRead r (RowItem.Pledge q) (IsOwnDecodable q))
      → ReadsKind RowKind.Pledge n row r
  own_read read (RowItem.Pledge q) more kind at word is = read q more at is
  own_read read (RowItem.Secret m place i) more kind at word is = absurd (let e = kind in cc)
  own_read read (RowItem.Entry m e) more kind at word is = absurd (let e = kind in cc)
  own_read read (RowItem.Extension m place e) more kind at word is = absurd (let e = kind in cc)
  own_read read (RowItem.Booking m b) more kind at word is = absurd (let e = kind in cc)

  pub secret_read : ((place : ℕ) (i : Issued) (more : Row) → IsWord i.secret → row ≡ secret_cells place i ++ more
      → IsRead r (RowItem.Secret n place i) (IsDayNumber i.day)) → ReadsKind RowKind.Secret n row r
  secret_read read (RowItem.Pledge q) more kind at word is = absurd (let e = kind in cc)
  secret_read read (RowItem.Secret m place i) more kind at word is =
      subst (λ k. IsRead r (RowItem.Secret k place i) (IsDayNumber i.day)) (sym at) (read place i more word is)
  secret_read read (RowItem.Entry m e) more kind at word is = absurd (let e = kind in cc)
  secret_read read (RowItem.Extension m place e) more kind at word is = absurd (let e = kind in cc)
  secret_read read (RowItem.Booking m b) more kind at word is = absurd (let e = kind in cc)

  pub entry_read : ((e : Entry) (more : Row) → row ≡ entry_cells e ++ more → IsRead r (RowItem.Entry n e) (IsEntryDecodable e))
      → ReadsKind RowKind.Entry n row r
  entry_read read (RowItem.Pledge q) more kind at word is = absurd (let e = kind in cc)
  entry_read read (RowItem.Secret m place i) more kind at word is = absurd (let e = kind in cc)
  entry_read read (RowItem.Entry m e) more kind at word is = subst (λ k. IsRead r (RowItem.Entry k e) (IsEntryDecodable e)) (sym at) (read e more is)
  entry_read read (RowItem.Extension m place e) more kind at word is = absurd (let e = kind in cc)
  entry_read read (RowItem.Booking m b) more kind at word is = absurd (let e = kind in cc)

  pub extension_read : ((place : ℕ) (e : Extension) (more : Row) → row ≡ extension_cells place e ++ more
      → IsRead r (RowItem.Extension n place e) (IsDayNumber e.day × IsDayNumber e.until)) → ReadsKind RowKind.Extension n row r
  extension_read read (RowItem.Pledge q) more kind at word is = absurd (let e = kind in cc)
  extension_read read (RowItem.Secret m place i) more kind at word is = absurd (let e = kind in cc)
  extension_read read (RowItem.Entry m e) more kind at word is = absurd (let e = kind in cc)
  extension_read read (RowItem.Extension m place e) more kind at word is =
      subst (λ k. IsRead r (RowItem.Extension k place e) (IsDayNumber e.day × IsDayNumber e.until)) (sym at) (read place e more is)
  extension_read read (RowItem.Booking m b) more kind at word is = absurd (let e = kind in cc)

  pub booking_read : ((k : Booking) (more : Row) → row ≡ booking_cells k ++ more → IsRead r (RowItem.Booking n k) (IsDayNumber k.day))
      → ReadsKind RowKind.Booking n row r
  booking_read read (RowItem.Pledge q) more kind at word is = absurd (let e = kind in cc)
  booking_read read (RowItem.Secret m place i) more kind at word is = absurd (let e = kind in cc)
  booking_read read (RowItem.Entry m e) more kind at word is = absurd (let e = kind in cc)
  booking_read read (RowItem.Extension m place e) more kind at word is = absurd (let e = kind in cc)
  booking_read read (RowItem.Booking m b) more kind at word is = subst (λ k. IsRead r (RowItem.Booking k b) (IsDayNumber b.day)) (sym at) (read b more is)

-- the cells of a row, and what follows them
pub cells_begin : (given : Option ℕ) (i : RowItem) (row : Row) → row ≡ cells_of given i → (more : Row) × (row ≡ item_cells i ++ more)
cells_begin None i row is = (number (item_number i) ∷ [], is)
cells_begin (Some n) i row is = ([], is ∙ sym (append-nil (item_cells i)))
