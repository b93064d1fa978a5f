-- What the texts of the tables mean.
use Rattle.pawn_opening.specs.Common.{everything, CreateTable, understood, Schema, Table, no_schema}
use Rattle.pawn_tables.specs.Schema.{first_schema, second_schema, bookings, books, entries, extensions, meta, pledges}
use Rattle.pawn_tables.specs.Schema.{secrets, terms, totals}
use Rattle.pawn_tables.specs.declared.texts.TheConstants.{MAKE_BOOKINGS, MAKE_BOOKS, MAKE_ENTRIES, MAKE_EXTENSIONS}
use Rattle.pawn_tables.specs.declared.texts.TheConstants.{MAKE_META, MAKE_PLEDGES, MAKE_SECRETS, MAKE_TERMS}
use Rattle.pawn_tables.specs.declared.texts.TheConstants.{MAKE_TOTALS}
use Rattle.sqlite.proofs.Callers.{IsPlain, command_of, statement_of}
use Rattle.sqlite.specs.Change.{created}
use Rattle.sqlite.specs.Compile.{table_defined_by}
use Rattle.sqlite.specs.Does.{lacks_sequence}
use Rattle.std.proofs.Common.{◌≡◌, List, ℕ, [], ◌∷◌, Ok, refl, false}

-- under this schema, the text makes this table and nothing else
abbrev pub IsCreation : Schema → List ℕ → Table → Type 0
IsCreation schema text table =
    (table_defined_by text ≡ Ok table) × (command_of (understood schema text) ≡ CreateTable) × (statement_of text (understood schema text) ≡ text)
    × IsPlain (understood schema text) × (lacks_sequence (created schema table) ≡ false)

-- each text makes its table, under the schema that the texts before it made of this one
abbrev pub AreCreations : Schema → List (List ℕ × Table) → Type 0
AreCreations schema [] = Unit {0}
AreCreations schema ((text, table) ∷ more) = IsCreation schema text table × AreCreations (created schema table) more

-- the texts of the program's tables after that of books, in the order in which they are made
abbrev pub later_texts : List (List ℕ × Table)
later_texts = (MAKE_TERMS.now, terms) ∷ (MAKE_PLEDGES.now, pledges) ∷ (MAKE_ENTRIES.now, entries) ∷ (MAKE_SECRETS.now, secrets) ∷ (MAKE_BOOKINGS.now, bookings)
    ∷ (MAKE_META.now, meta) ∷ (MAKE_TOTALS.now, totals) ∷ (MAKE_EXTENSIONS.now, extensions) ∷ []

and : {A B : Type 0} → A → B → A × B
and a b = (a, b)

pub are_creations : AreCreations no_schema ((MAKE_BOOKS.now, books) ∷ later_texts)
unfolding understood everything
are_creations = and (refl, refl, refl, (refl, refl), refl) (and (refl, refl, refl, (refl, refl), refl) (and (refl, refl, refl, (refl, refl), refl)
    (and (refl, refl, refl, (refl, refl), refl) (and (refl, refl, refl, (refl, refl), refl) (and (refl, refl, refl, (refl, refl), refl)
    (and (refl, refl, refl, (refl, refl), refl) (and (refl, refl, refl, (refl, refl), refl) (and (refl, refl, refl, (refl, refl), refl) tt))))))))

pub totals_is : IsCreation first_schema MAKE_TOTALS.now totals
totals_is = are_creations.1.1.1.1.1.1.1.0

pub extensions_is : IsCreation second_schema MAKE_EXTENSIONS.now extensions
extensions_is = are_creations.1.1.1.1.1.1.1.1.0
