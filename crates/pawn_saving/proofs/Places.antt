-- Where each table stands in the schema.
use Rattle.one_table.proofs.Rowed.{IsAlone, plainly}
use Rattle.pawn_base.proofs.ListLemmas.{◌&◌}
use Rattle.pawn_saving.proofs.Basics.{IsPlace}
use Rattle.pawn_saving.specs.Common.{Enforced}
use Rattle.pawn_tables.specs.Common.{Index, Row, Table}
use Rattle.pawn_tables.specs.Ours.{with_indexes}
use Rattle.pawn_tables.specs.Schema.{books, terms, pledges, secrets, bookings, meta, totals, extensions, bookings_tree}
use Rattle.pawn_tables.specs.Schema.{books_tree, entries_tree, extensions_tree, meta_tree, pledges_tree, secrets_tree}
use Rattle.pawn_tables.specs.Schema.{terms_tree, totals_tree, entries}
use Rattle.sqlite_rules.specs.Action.{works}
use Rattle.std.proofs.Common.{◌≡◌, inl, inr, ℕ, ◌==◌, List, [], ◌∷◌, length, false, refl, arith, sym, ◌∙◌, ◌⊎◌, Some}
use Rattle.std.proofs.Common.{slice_get}
use Rattle.std.proofs.lemmas.Bool.{false≢true}
use Rattle.std.proofs.lemmas.Bool.Decides.{nat_tests}

-- no foreign key of the schema acts on its own
idle : (more : List Index) (tree : ℕ) (olds news : List Row) → works (with_indexes more) Enforced 0 tree olds news ≡ []
idle more tree olds [] = refl
idle more tree olds (row ∷ news) = let e : (length (row ∷ news) == 0) ≡ false = grind arith in rw e refl

-- another tree
apart : {A : Type 0} {m n : ℕ} → (m == n) ≡ false → A ⊎ (m ≡ n → ⊥)
apart {m = m} {n = n} differ = inr (λ same. absurd (false≢true (sym differ ∙ (let is = same in grind (arith, nat_tests)))))

-- a table of the schema, found and alone
placed : (more : List Index) {at : ℕ} {t : Table} → slice_get (with_indexes more).tables at ≡ Some (plainly t) → IsAlone (plainly t) (with_indexes more).tables
    → IsPlace (with_indexes more) at t
placed more {t = t} listed alone = record { listed = listed; alone = alone; idle = idle more t.tree }

pub books_place : (more : List Index) → IsPlace (with_indexes more) 0 (record books { tree = books_tree })
books_place more = placed more refl (inl refl & apart refl & apart refl & apart refl & apart refl & apart refl & apart refl & apart refl & apart refl & tt)

pub terms_place : (more : List Index) → IsPlace (with_indexes more) 1 (record terms { tree = terms_tree })
terms_place more = placed more refl (apart refl & inl refl & apart refl & apart refl & apart refl & apart refl & apart refl & apart refl & apart refl & tt)

pub pledges_place : (more : List Index) → IsPlace (with_indexes more) 2 (record pledges { tree = pledges_tree })
pledges_place more = placed more refl (apart refl & apart refl & inl refl & apart refl & apart refl & apart refl & apart refl & apart refl & apart refl & tt)

pub entries_place : (more : List Index) → IsPlace (with_indexes more) 3 (record entries { tree = entries_tree })
entries_place more = placed more refl (apart refl & apart refl & apart refl & inl refl & apart refl & apart refl & apart refl & apart refl & apart refl & tt)

pub secrets_place : (more : List Index) → IsPlace (with_indexes more) 4 (record secrets { tree = secrets_tree })
secrets_place more = placed more refl (apart refl & apart refl & apart refl & apart refl & inl refl & apart refl & apart refl & apart refl & apart refl & tt)

pub bookings_place : (more : List Index) → IsPlace (with_indexes more) 5 (record bookings { tree = bookings_tree })
bookings_place more = placed more refl (apart refl & apart refl & apart refl & apart refl & apart refl & inl refl & apart refl & apart refl & apart refl & tt)

pub meta_place : (more : List Index) → IsPlace (with_indexes more) 6 (record meta { tree = meta_tree })
meta_place more = placed more refl (apart refl & apart refl & apart refl & apart refl & apart refl & apart refl & inl refl & apart refl & apart refl & tt)

pub totals_place : (more : List Index) → IsPlace (with_indexes more) 7 (record totals { tree = totals_tree })
totals_place more = placed more refl (apart refl & apart refl & apart refl & apart refl & apart refl & apart refl & apart refl & inl refl & apart refl & tt)

pub extensions_place : (more : List Index) → IsPlace (with_indexes more) 8 (record extensions { tree = extensions_tree })
extensions_place more = placed more refl (apart refl & apart refl & apart refl & apart refl & apart refl & apart refl & apart refl & apart refl & inl refl & tt)
