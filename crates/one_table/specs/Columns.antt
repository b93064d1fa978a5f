-- Columns, keys and references, as the library reads them from a CREATE TABLE statement.
use Rattle.one_table.specs.Common.{Binary, Schema, Table, Null}
use Rattle.sqlite.specs.Kind.{Kind}
use Rattle.sqlite_schema.specs.declared.schema.Action.TheVariants.{NoAction}
use Rattle.sqlite_schema.specs.declared.schema.Column.{Column}
use Rattle.sqlite_schema.specs.declared.schema.Reference.{Reference}
use Rattle.sqlite_schema.specs.declared.schema.Stamps.{Stamps}
use Rattle.std.specs.Prelude.{true, false, [], None, List, ℕ}

-- a NOT NULL column with a strict type
abbrev pub required : List ℕ → Kind → Column
required name kind = record { name = name; kind = kind; is_strict = true; not_null = true; default = Null; collation = Binary }

-- a column with a strict type that may be NULL
abbrev pub blank : List ℕ → Kind → Column
blank name kind = record { name = name; kind = kind; is_strict = true; not_null = false; default = Null; collation = Binary }

-- no column has a default that reads the time
abbrev pub no_stamps : Stamps
no_stamps = record { places = []; terms = []; formats = [] }

-- a foreign key: columns that refer to the primary key of the table `parent`
abbrev pub refers : List ℕ → List ℕ → Reference
refers columns parent = record { columns = columns; parent = parent; parent_columns = []; on_delete = NoAction; on_update = NoAction; is_deferred = false }

-- A table with a primary key, lists of columns that must be unique, and foreign keys. A column is named by its
-- place, the first place being 1.
abbrev pub keyed : List ℕ → List Column → List ℕ → List (List ℕ) → List Reference → Table
keyed name columns primary uniques references = record {
  name = name;
  tree = 0;
  columns = columns;
  key = None;
  primary = primary;
  uniques = uniques;
  orders = [];
  checks = [];
  references = references;
  computed = [];
  stamps = no_stamps;
  is_counted = false;
}

abbrev pub no_schema : Schema
no_schema = record { tables = []; indexes = []; views = [] }
