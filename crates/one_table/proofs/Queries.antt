-- A text that is a query writes nothing, whatever the schema is.
use Rattle.one_table.specs.Common.{Compiled, CompileError, Schema}
use Rattle.sqlite.specs.Listing.{if_select, is_select, listing_schema, reads_listing, understood}
use Rattle.sqlite_resolve.specs.Compile.{compiled, planned, meaning, first, returning, timed, command, small}
use Rattle.sqlite_resolve.specs.Compile.{with_command}
use Rattle.sqlite_resolve.specs.Lowering.{and_then}
use Rattle.sqlite_resolve.specs.declared.error.CompileError.TheVariants.{NoSuchTable}
use Rattle.sqlite_syntax.specs.declared.statement.Parsed.{Parsed}
use Rattle.std.proofs.Common.{◌≡◌, ℕ, ◌+◌, List, true, false, None, Result, Ok, Err, [], refl, if◌then◌else◌}

-- the statement shows no rows of a write, and reads no clock
abbrev pub IsQuery : Result Parsed CompileError → Type 0
IsQuery (Ok p) = ((schema : Schema) (base : ℕ) → returning schema base p.statement ≡ Ok None) × ((schema : Schema) → timed schema p.formats p.statement ≡ [])
IsQuery (Err e) = Unit {0}

-- if it compiles, it is a query
abbrev pub OnlyReads : Result Compiled CompileError → Type 0
OnlyReads (Ok c) = (c.returning ≡ None) × (c.formats ≡ [])
OnlyReads (Err e) = Unit {0}

means : (schema : Schema) (p : Parsed) → IsQuery (Ok p) → OnlyReads (and_then (planned schema p) (λ plan. Ok (with_command p plan)))
unfolding planned meaning
means schema p query = let none = query.0 schema (small p.names + small (timed schema p.formats p.statement)) in
    let untimed = query.1 schema in
    elim (command schema p.formats (small p.names + small (timed schema p.formats p.statement)) p.statement) as (λ r.
    OnlyReads (and_then (and_then (and_then (returning schema (small p.names + small (timed schema p.formats p.statement)) p.statement)
    (λ shown. and_then r (λ c. Ok (c, shown)))) (λ found. Ok (timed schema p.formats p.statement, found))) (λ plan. Ok (with_command p plan)))) [
      | Ok k ↦ rw none (refl, untimed)
      | Err e ↦ rw none tt
    ]

compiles : (sql : List ℕ) (schema : Schema) → IsQuery (first sql) → OnlyReads (compiled schema sql)
unfolding compiled
compiles sql schema query = go (first sql) query where
  go : (r : Result Parsed CompileError) → IsQuery r → OnlyReads (and_then r (λ p. and_then (planned schema p) (λ plan. Ok (with_command p plan))))
  go (Ok p) query = means schema p query
  go (Err e) query = tt

selected : (r : Result Compiled CompileError) → OnlyReads r → OnlyReads (if_select r)
selected (Ok c) h = elim (is_select c.command) as (λ b. OnlyReads (if b then Ok c else Err NoSuchTable)) [ true ↦ h | false ↦ tt ]
selected (Err e) h = tt

pub only_reads : (sql : List ℕ) (schema : Schema) → IsQuery (first sql) → OnlyReads (understood schema sql)
unfolding understood
only_reads sql schema query =
    elim (reads_listing schema sql) as (λ b. OnlyReads (if b then if_select (compiled listing_schema sql) else compiled schema sql))
    [ true ↦ selected (compiled listing_schema sql) (compiles sql listing_schema query) | false ↦ compiles sql schema query ]
