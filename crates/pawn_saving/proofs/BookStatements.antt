-- What the statements on the rows of books write.
use Rattle.pawn_saving.proofs.Basics.{shows_of, cast_int, cast_null, cast_whole, Sets}
use Rattle.pawn_saving.proofs.BookChanges.{own_passes}
use Rattle.pawn_saving.proofs.OurTables.{row_joins, row_set_by}
use Rattle.pawn_saving.proofs.Places.{books_place}
use Rattle.pawn_saving.proofs.StatementWrites.{cast_optional}
use Rattle.pawn_saving.specs.Common.{cast, BlobKind, filled_book, made_book, NewBook, BookRows, with_rows, ListsOurs}
use Rattle.pawn_saving.specs.RowWrites.{IsOnly}
use Rattle.pawn_tables.proofs.Basics.{over_table, passes}
use Rattle.pawn_tables.specs.At.{at_book}
use Rattle.pawn_tables.specs.Common.{Index, Row, column, Executes, State, Term, Blob, Int, Null, Text, Rates}
use Rattle.pawn_tables.specs.Common.{PledgeValue, BookValue, Listed, columns_of}
use Rattle.pawn_tables.specs.Ours.{with_indexes}
use Rattle.pawn_tables.specs.Rows.{book_row, import_count, import_key, number, or_null, word, head_cells}
use Rattle.pawn_tables.specs.Schema.{books, books_tree}
use Rattle.std.proofs.Common.{◌≡◌, ℕ, ℤ, List, [], ◌∷◌, length, Some, None, Ok, refl, sym, ap, subst, ◌∙◌}
use Rattle.pawn_tables.proofs.ReadTexts as read
use Rattle.pawn_saving.proofs.WriteTexts as text

cast_blob_null : cast BlobKind Null ≡ Null
cast_blob_null = refl

optional_word : (o : _) → cast BlobKind (or_null word o) ≡ or_null word o
optional_word None = cast_blob_null
optional_word (Some w) = refl

module _ (old new : State) (listed : Listed) (st : ListsOurs old.now listed) (count : ℕ) where
  pub book_wrote : (b c : ℕ) (w name : List ℕ) (new_book : NewBook) → Blob w ≡ word new_book.key → name ≡ new_book.name → c ≡ new_book.capacity
      → Executes text.PUT_BOOK.now (number b ∷ Blob w ∷ Text name ∷ number c ∷ []) old new (Ok count)
      → ListsOurs new.now (with_rows listed books_tree (book_row b (made_book new_book) ∷ listed books_tree))
  book_wrote b c w name new_book key named capacity h = let cells : Row = Blob w ∷ Text name ∷ number c ∷ number 0 ∷ number 0 ∷ Null ∷ Null ∷ [] in
      let stored : Row = number b ∷ Null ∷ cells in
      subst (λ r. ListsOurs new.now (with_rows listed books_tree (r ∷ listed books_tree))) (λ i. number b ∷ key i ∷ Text (named i) ∷ number (capacity i)
      ∷ number 0 ∷ number 0 ∷ Null ∷ Null ∷ []) (row_joins 0 (record books { tree = books_tree }) text.book_values 9 text.PUT_BOOK.now books_place
      (λ more. (text.texts more).book_is) old new (number b ∷ Blob w ∷ Text name ∷ number c ∷ []) stored stored (number b ∷ cells) count listed st refl (λ i.
      cast_int b i ∷ cast_null i ∷ Blob w ∷ Text name ∷ cast_int c i ∷ cast_int 0 i ∷ cast_int 0 i ∷ cast_blob_null i ∷ cast_null i ∷ []) (λ rows. refl) h)

  -- the row of a book, with other counts or another import
  module _ (b : ℕ) (k next : BookValue) (rest : List Row) (only : IsOnly (at_book b) (listed books_tree) (book_row b k) rest) (shows : List Term)
      (statement : List ℕ) (is : (more : List Index) → Sets (with_indexes more) statement 0 (over_table books_tree read.of_book shows [])) (params : Row)
      (passes_is : (r : Row) → passes read.of_book params r ≡ at_book b (columns_of (record books { tree = books_tree }) r)) where
    set_book : ((id : ℤ) (r : Row) → column r 0 ≡ Int id → columns_of (record books { tree = books_tree }) r ≡ book_row b k
        → shows_of shows params r ≡ Int id ∷ Int id ∷ Null ∷ head_cells next) → Executes statement params old new (Ok count)
        → ListsOurs new.now (with_rows listed books_tree (book_row b next ∷ rest))
    set_book shown =
        row_set_by 0 (record books { tree = books_tree }) books_place (λ _. refl) read.of_book shows statement is old new params count listed st (at_book b)
        (book_row b k) (book_row b next) rest passes_is only.split (own_passes b k) only.none (λ id r at cols.
        let named : Int id ≡ number b = sym at ∙ ap (λ v. column v 0) cols in (
          Int id ∷ Null ∷ head_cells next,
          Null ∷ head_cells next,
          shown id r at cols,
          (λ i. cast_whole id i ∷ cast_null i ∷ word next.key ∷ Text next.name ∷ cast_int next.capacity i ∷ cast_int (length next.terms) i
              ∷ cast_int (length next.pledges) i ∷ optional_word (import_key next.imported) i ∷ cast_optional (import_count next.imported) i ∷ []),
          (λ i. named i ∷ head_cells next),
        ))

  pub terms_count_wrote : (b n : ℕ) (k : BookValue) (terms : List Rates) (rest : List Row) → length terms ≡ n
      → IsOnly (at_book b) (listed books_tree) (book_row b k) rest → Executes text.SET_TERMS_COUNT.now (number b ∷ number n ∷ []) old new (Ok count)
      → ListsOurs new.now (with_rows listed books_tree (book_row b (record k { terms = terms }) ∷ rest))
  terms_count_wrote b n k terms rest len only =
      set_book b k (record k { terms = terms }) rest only text.terms_count_shows text.SET_TERMS_COUNT.now (λ more. (text.texts more).terms_count_is)
      (number b ∷ number n ∷ []) (λ r. refl) (λ id r at cols. let back = sym len in λ i. at i ∷ at i ∷ Null ∷ column (cols i) 1 ∷ column (cols i) 2
      ∷ column (cols i) 3 ∷ number (back i) ∷ column (cols i) 5 ∷ column (cols i) 6 ∷ column (cols i) 7 ∷ [])

  pub pledges_count_wrote : (b n : ℕ) (k : BookValue) (pledges : List PledgeValue) (rest : List Row) → length pledges ≡ n
      → IsOnly (at_book b) (listed books_tree) (book_row b k) rest → Executes text.SET_PLEDGES_COUNT.now (number b ∷ number n ∷ []) old new (Ok count)
      → ListsOurs new.now (with_rows listed books_tree (book_row b (record k { pledges = pledges }) ∷ rest))
  pledges_count_wrote b n k pledges rest len only =
      set_book b k (record k { pledges = pledges }) rest only text.pledges_count_shows text.SET_PLEDGES_COUNT.now (λ more. (text.texts more).pledges_count_is)
      (number b ∷ number n ∷ []) (λ r. refl) (λ id r at cols. let back = sym len in λ i. at i ∷ at i ∷ Null ∷ column (cols i) 1 ∷ column (cols i) 2
      ∷ column (cols i) 3 ∷ column (cols i) 4 ∷ number (back i) ∷ column (cols i) 6 ∷ column (cols i) 7 ∷ [])

  pub import_wrote : (b n m key : ℕ) (w : List ℕ) (k : BookValue) (rows : BookRows) (rest : List Row) → length rows.terms ≡ n → length rows.pledges ≡ m
      → Blob w ≡ word key → IsOnly (at_book b) (listed books_tree) (book_row b k) rest → Executes text.SET_IMPORT.now (number b ∷ number n ∷ number m ∷ Blob w
      ∷ []) old new (Ok count) → ListsOurs new.now (with_rows listed books_tree (book_row b (filled_book k key rows) ∷ rest))
  import_wrote b n m key w k rows rest terms pledges keyed only =
      set_book b k (filled_book k key rows) rest only text.import_shows text.SET_IMPORT.now (λ more. (text.texts more).import_is)
      (number b ∷ number n ∷ number m ∷ Blob w ∷ []) (λ r. refl) (λ id r at cols. let so_many = sym terms in let back = sym pledges in λ i. at i ∷ at i ∷ Null
      ∷ column (cols i) 1 ∷ column (cols i) 2 ∷ column (cols i) 3 ∷ number (so_many i) ∷ number (back i) ∷ keyed i ∷ number (back i) ∷ [])
