-- The tables of the empty host.
use Rattle.pawn_base.proofs.ListLemmas.{no_elements}
use Rattle.pawn_book.specs.BookStep.{BookValue}
use Rattle.pawn_book.specs.HostStep.{book_row_count}
use Rattle.pawn_opening.specs.Common.{Database, Holds, Listed, Lists, with_rows, meta_row, meta_rows, StandsFor}
use Rattle.pawn_opening.specs.Laying.{no_rows}
use Rattle.pawn_opening.specs.Opened.{empty_host}
use Rattle.pawn_tables.specs.Rows.{book_row, terms_listed, pledge_listed, entries_listed, secrets_listed}
use Rattle.pawn_tables.specs.Rows.{booking_listed, totals_listed, extensions_listed}
use Rattle.pawn_tables.specs.Schema.{bookings, bookings_tree, books, books_tree, entries as entries_table, entries_tree}
use Rattle.pawn_tables.specs.Schema.{extensions, extensions_tree, keep_schema, meta, meta_tree, pledges, pledges_tree}
use Rattle.pawn_tables.specs.Schema.{secrets, secrets_tree, terms, terms_tree, totals, totals_tree}
use Rattle.std.proofs.Common.{◌≡◌, ℕ, [], ◌∷◌, map, flat_map, codes, Some, sym, subst, ◌∙◌, sum_by}
use Rattle.std.specs.FinMap.{entries, get, empty, get-empty, len-empty, len-entries}
use Rattle.std.specs.Ordering.{nat_cmp}

no_entries : entries (empty {X = BookValue} {R = nat_cmp}) ≡ []
no_entries = no_elements _ (sym (len-entries (empty {X = BookValue} {R = nat_cmp})) ∙ len-empty nat_cmp BookValue)

no_book : {P : Type 0} (b : ℕ) (k : BookValue) → get (empty {X = BookValue} {R = nat_cmp}) b ≡ Some k → P
no_book b k is = absurd (let e = sym (get-empty nat_cmp b) ∙ is in cc)

-- what an empty store lists once its notes are made
abbrev pub noted : ℕ → Listed
noted limit = with_rows (with_rows (with_rows no_rows meta_tree (meta_row (codes "limit") limit ∷ [])) meta_tree
    (meta_row (codes "rows") 0 ∷ meta_row (codes "limit") limit ∷ [])) meta_tree (meta_rows 0 limit)

pub stands_empty : (db : Database) (limit : ℕ) → Lists keep_schema db (noted limit) → StandsFor db (empty_host limit)
stands_empty db limit l = let none = sym no_entries in
    record {
      schema = record { more = []; loose = tt; is = l.schema_is };
      sound = l.sound;
      books = subst (λ es. Holds db.trees books_tree (record books { tree = books_tree }) (map (λ (e : ℕ × BookValue). book_row e.0 e.1) es)) none l.tables.0;
      terms = subst (λ es. Holds db.trees terms_tree (record terms { tree = terms_tree }) (flat_map (λ (e : ℕ × BookValue). terms_listed e.0 e.1) es)) none
          l.tables.1.0;
      pledges = subst (λ es. Holds db.trees pledges_tree (record pledges { tree = pledges_tree })
          (flat_map (λ (e : ℕ × BookValue). flat_map (pledge_listed e.0) e.1.pledges) es)) none l.tables.1.1.0;
      entries = subst (λ es. Holds db.trees entries_tree (record entries_table { tree = entries_tree })
          (flat_map (λ (e : ℕ × BookValue). flat_map (entries_listed e.0) e.1.pledges) es)) none l.tables.1.1.1.0;
      secrets = subst (λ es. Holds db.trees secrets_tree (record secrets { tree = secrets_tree })
          (flat_map (λ (e : ℕ × BookValue). flat_map (secrets_listed e.0) e.1.pledges) es)) none l.tables.1.1.1.1.0;
      bookings = subst (λ es. Holds db.trees bookings_tree (record bookings { tree = bookings_tree })
          (flat_map (λ (e : ℕ × BookValue). flat_map (booking_listed e.0) e.1.pledges) es)) none l.tables.1.1.1.1.1.0;
      meta = subst (λ es. Holds db.trees meta_tree (record meta { tree = meta_tree })
          (meta_rows (sum_by book_row_count (map (λ (e : ℕ × BookValue). e.1) es)) limit)) none l.tables.1.1.1.1.1.1.0;
      totals = subst (λ es. Holds db.trees totals_tree (record totals { tree = totals_tree })
          (flat_map (λ (e : ℕ × BookValue). flat_map (totals_listed e.0) e.1.pledges) es)) none l.tables.1.1.1.1.1.1.1.0;
      extensions = subst (λ es. Holds db.trees extensions_tree (record extensions { tree = extensions_tree })
          (flat_map (λ (e : ℕ × BookValue). flat_map (extensions_listed e.0) e.1.pledges) es)) none l.tables.1.1.1.1.1.1.1.1.0;
      ordered = λ b k is. no_book b k is;
      storable = λ b k is. no_book b k is;
    }
