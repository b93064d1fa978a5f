-- What CREATE INDEX makes of tables, whatever their schema is.
use Rattle.pawn_opening.proofs.Basics.{went, same_value, clean_before}
use Rattle.pawn_opening.proofs.Creating.{Ran}
use Rattle.pawn_opening.proofs.Gained.{GainsOne, gains_both, gains_by_end, gains_by_time}
use Rattle.pawn_opening.specs.Common.{KeepsRows, Compiled, CompileError, HasCleanDisk, Index, everything, Does, Tally}
use Rattle.pawn_opening.specs.Common.{Database, IsDatabase, understood, Schema, Executes, State, Table, IsLent}
use Rattle.pawn_opening.specs.Indexing.{AddsIndexes, GainsIndexes}
use Rattle.pawn_opening.specs.declared.indexing.Lacking.TheVariants.{PledgesByEnd, BookingsByTime, Both}
use Rattle.pawn_tables.specs.declared.texts.TheConstants.{MAKE_BOOKINGS_BY_TIME, MAKE_PLEDGES_BY_END}
use Rattle.sqlite.proofs.Callers.{IsPlain, command_of, runs_as, statement_of}
use Rattle.sqlite.specs.Compile.{index_defined_by}
use Rattle.sqlite.specs.Does.{AtPlace, Defines, MakesIndex}
use Rattle.sqlite.specs.Listing.{if_select, is_select, listing_schema, reads_listing}
use Rattle.sqlite.specs.State.{ExecutesIn, Writes, mode_of, text_of}
use Rattle.sqlite_ast.specs.declared.CreateIndex.{CreateIndex}
use Rattle.sqlite_catalog.specs.Change.{next_tree}
use Rattle.sqlite_resolve.specs.Body.{table_at}
use Rattle.sqlite_resolve.specs.Compile.{command, compiled, create_index, creates, first, index_in, is_reserved}
use Rattle.sqlite_resolve.specs.Compile.{meaning, planned, returning, small, target, timed, with_command}
use Rattle.sqlite_resolve.specs.Lowering.{and_then}
use Rattle.sqlite_resolve.specs.declared.error.CompileError.TheVariants.{Exists, Misuse, NoSuchTable}
use Rattle.sqlite_schema.specs.Names.{index_named, table_named, view_named}
use Rattle.sqlite_schema.specs.declared.command.Command.{Command}
use Rattle.sqlite_schema.specs.declared.command.Command.TheVariants.{CreateIndex as MakeIndex, Nothing}
use Rattle.sqlite_syntax.specs.declared.statement.Parsed.{Parsed}
use Rattle.std.proofs.Common.{◌≡◌, ℕ, ◌+◌, List, [], ◌∷◌, Bool, true, false, Option, None, Some, Ok, Err, Result, OnOk}
use Rattle.std.proofs.Common.{IsTrue, refl, sym, ap, subst, ◌∙◌, slice_get, slice_range, if◌then◌else◌, is_some}
use Rattle.std.specs.Option.{option_or}
use Rattle.sqlite_ast.specs.declared.Statement.TheVariants as written
use Rattle.sqlite_resolve.specs.Define as define

-- ---- the text

-- it is one statement that makes an index, and says neither that its name may be taken nor that rows differ
abbrev pub IsMaking : List ℕ → Result Parsed CompileError → Type 0
IsMaking sql (Ok p) = (def : CreateIndex) × (p.statement ≡ written.CreateIndex def) × (def.if_missing ≡ false) × (def.is_unique ≡ false)
    × (slice_range sql p.start p.end ≡ sql) × (p.formats ≡ [])
IsMaking sql (Err e) = ⊥

pub makes_by_end : IsMaking MAKE_PLEDGES_BY_END.now (first MAKE_PLEDGES_BY_END.now)
unfolding everything
makes_by_end = (_, refl, refl, refl, refl, refl)

pub makes_by_time : IsMaking MAKE_BOOKINGS_BY_TIME.now (first MAKE_BOOKINGS_BY_TIME.now)
unfolding everything
makes_by_time = (_, refl, refl, refl, refl, refl)

-- ---- what it means

-- if it compiles, it makes an index of a table, and is no more than that
abbrev MakesAt : List ℕ → Result Compiled CompileError → Type 0
MakesAt sql (Ok c) = (at : ℕ) × (c.command ≡ MakeIndex at) × (c.returning ≡ None) × (c.formats ≡ []) × (text_of sql c ≡ sql)
MakesAt sql (Err e) = Unit {0}

abbrev IsPlaced : Result Command CompileError → Type 0
IsPlaced (Ok k) = (at : ℕ) × (k ≡ MakeIndex at)
IsPlaced (Err e) = Unit {0}

abbrev IsNew : Result Bool CompileError → Type 0
IsNew (Ok b) = b ≡ true
IsNew (Err e) = Unit {0}

then_placed : {A : Type 0} (r : Result A CompileError) (f : A → Result Command CompileError) → ((x : A) → IsPlaced (f x)) → IsPlaced (and_then r f)
then_placed (Ok x) f h = h x
then_placed (Err e) f h = tt

new_placed : (r : Result Bool CompileError) (f : Bool → Result Command CompileError) → IsNew r → IsPlaced (f true) → IsPlaced (and_then r f)
new_placed (Ok b) f is h = subst (λ x. IsPlaced (f x)) (sym is) h
new_placed (Err e) f is h = tt

-- a name that may not be taken is new
creates_new : (missing : Bool) (name : List ℕ) (same other : Option ℕ) → missing ≡ false → IsNew (creates missing name same other)
unfolding creates
creates_new missing name same other not =
    elim (is_reserved name) as (λ a. IsNew
    (if a then Err Misuse else (if is_some other then Err Exists else (if is_some same then (if missing then Ok false else Err Exists) else Ok true)))) [
      | true ↦ tt
      | false ↦
          elim (is_some other) as (λ b. IsNew (if b then Err Exists else (if is_some same then (if missing then Ok false else Err Exists) else Ok true))) [
            | true ↦ tt
            | false ↦
                elim (is_some same) as (λ c. IsNew (if c then (if missing then Ok false else Err Exists) else Ok true)) [ true ↦ rw not tt | false ↦ refl ]
          ]
    ]

module _ (schema : Schema) (def : CreateIndex) (not : def.if_missing ≡ false) where
  abbrev made : ℕ → Table → Bool → Result Command CompileError
  made at table is_new = if is_new then and_then (define.index table def) (λ index. Ok (MakeIndex at)) else Ok Nothing

  abbrev in_table : ℕ → Table → Result Command CompileError
  in_table at table = and_then
      (creates def.if_missing def.name (index_named schema def.name) (option_or (table_named schema def.name) (view_named schema def.name))) (made at table)

  abbrev in_place : ℕ → Result Command CompileError
  in_place at = and_then (table_at schema at) (in_table at)

  placed : IsPlaced (create_index schema def)
  unfolding create_index
  placed =
      elim (is_reserved def.table) as (λ a. IsPlaced (if a then Err Misuse else and_then (target schema def.table) in_place)) [
        | true ↦ tt
        | false ↦ then_placed (target schema def.table) in_place (λ at. then_placed (table_at schema at) (in_table at) (λ table. new_placed _ (made at table)
            (creates_new def.if_missing def.name (index_named schema def.name) (option_or (table_named schema def.name) (view_named schema def.name)) not)
            (then_placed (define.index table def) (λ index. Ok (MakeIndex at)) (λ index. (at, refl)))))
      ]

means : (sql : List ℕ) (schema : Schema) (p : Parsed) → IsMaking sql (Ok p) → MakesAt sql (and_then (planned schema p) (λ plan. Ok (with_command p plan)))
unfolding planned meaning returning command timed
means sql schema p it = subst (λ s. MakesAt sql (and_then (and_then (and_then (returning schema (small p.names + small (timed schema p.formats s)) s)
    (λ shown. and_then (command schema p.formats (small p.names + small (timed schema p.formats s)) s) (λ c. Ok (c, shown))))
    (λ found. Ok (timed schema p.formats s, found))) (λ plan. Ok (with_command p plan)))) (sym it.1) (go (create_index schema it.0) (placed schema it.0 it.2))
  where
    go : (r : Result Command CompileError) → IsPlaced r → MakesAt sql (and_then
        (and_then (and_then (Ok None) (λ shown. and_then r (λ c. Ok (c, shown)))) (λ found. Ok (p.formats, found))) (λ plan. Ok (with_command p plan)))
    go (Ok k) at = (at.0, at.1, refl, it.5, it.4)
    go (Err e) at = tt

compiles : (sql : List ℕ) (schema : Schema) → IsMaking sql (first sql) → MakesAt sql (compiled schema sql)
unfolding compiled
compiles sql schema making = go (first sql) making where
  go : (r : Result Parsed CompileError) → IsMaking sql r → MakesAt sql (and_then r (λ p. and_then (planned schema p) (λ plan. Ok (with_command p plan))))
  go (Ok p) making = means sql schema p making
  go (Err e) making = absurd making

selected : (sql : List ℕ) (r : Result Compiled CompileError) → MakesAt sql r → MakesAt sql (if_select r)
selected sql (Ok c) h = elim (is_select c.command) as (λ b. MakesAt sql (if b then Ok c else Err NoSuchTable)) [ true ↦ h | false ↦ tt ]
selected sql (Err e) h = tt

makes_at : (sql : List ℕ) (schema : Schema) → IsMaking sql (first sql) → MakesAt sql (understood schema sql)
unfolding understood
makes_at sql schema making =
    elim (reads_listing schema sql) as (λ b. MakesAt sql (if b then if_select (compiled listing_schema sql) else compiled schema sql))
    [ true ↦ selected sql (compiled listing_schema sql) (compiles sql listing_schema making) | false ↦ compiles sql schema making ]

-- the index that it makes does not ask that rows differ
is_loose : (sql : List ℕ) → IsMaking sql (first sql) → (table : Table) (index : Index) → index_defined_by table sql ≡ Ok index → index.is_unique ≡ false
unfolding index_defined_by index_in define.index
is_loose sql making table index is = go (first sql) making is where
  after : {A : Type 0} (r : Result A CompileError) (f : A → Index) → ((x : A) → (f x).is_unique ≡ false) → and_then r (λ x. Ok (f x)) ≡ Ok index
      → index.is_unique ≡ false
  after (Ok x) f h e = subst (λ (i : Index). i.is_unique ≡ false) (same_value e) (h x)
  after (Err why) f h e = absurd (let no = e in cc)

  named : (b : Bool) (r : Result Index CompileError) → (r ≡ Ok index → index.is_unique ≡ false) → (if b then Err Misuse else r) ≡ Ok index
      → index.is_unique ≡ false
  named true r h e = absurd (let no = e in cc)
  named false r h e = h e

  go : (r : Result Parsed CompileError) → IsMaking sql r → and_then r (λ p. index_in table p.statement) ≡ Ok index → index.is_unique ≡ false
  go (Ok p) it e = let defined = subst (λ s. index_in table s ≡ Ok index) it.1 e in
      named _ _ (λ made. after (define.sorted table it.0.columns)
      (λ at. record { name = it.0.name; tree = 0; table = table.tree; columns = at.0; order = at.1; is_unique = it.0.is_unique }) (λ at. it.3) made) defined
  go (Err why) it e = absurd it

-- ---- what it does

gains_at : (old new : Database) (at : ℕ) (sql : List ℕ) → IsMaking sql (first sql) → IsDatabase new → (limit : Option ℕ) (mode : _) (tally : Tally)
    → Does limit mode [] old sql None (MakeIndex at) (Ok (tally, new)) → GainsOne sql old new
gains_at old new at sql making sound limit mode tally does = go (slice_get old.schema.tables at) refl does where
  go : (o : Option Table) → slice_get old.schema.tables at ≡ o → AtPlace (λ table. Defines mode (MakesIndex sql old table)) o (Ok (tally, new))
      → GainsOne sql old new
  go None there h = absurd (let e = h in cc)
  go (Some table) there h = let all = went h in
      let made = all.1 in let now : new ≡ all.0 = ap (λ (p : Tally × Database). p.1) (same_value all.2) in
      record {
        index = record made.index { tree = next_tree old.schema; table = table.tree };
        made = record { place = at; table = table; of = there; meaning = made.index; defined = made.defined; is = refl };
        loose = is_loose sql making table made.index made.defined;
        is = ap (λ (d : Database). d.schema) now ∙ made.is;
        rows = subst (λ (d : Database). KeepsRows old.schema.tables old.trees d.trees) (sym now) made.rows;
        sound = sound;
      }

gains : (sql : List ℕ) → IsMaking sql (first sql) → (old new : State) (count : ℕ) → Executes sql [] old new (Ok count) → GainsOne sql old.now new.now
unfolding ExecutesIn
gains sql making old new count h = let compiled_as = h.1.is in
    let it = subst (MakesAt sql) compiled_as (makes_at sql old.now.schema making) in let at = it.0 in
    let is : command_of (understood old.now.schema sql) ≡ MakeIndex at = ap command_of compiled_as ∙ it.1 in
    let plain : IsPlain (understood old.now.schema sql) = subst IsPlain (sym compiled_as) (it.2, it.3) in
    let whole : statement_of sql (understood old.now.schema sql) ≡ sql = ap (statement_of sql) compiled_as ∙ it.4 in
    let w = subst (λ t. Writes old new None (MakeIndex at) t [] count) whole (runs_as sql [] old new old.now.schema refl (MakeIndex at) is plain count h) in
    gains_at old.now new.now at sql making w.sound old.step_limit (mode_of old) w.tally w.changed

-- a part of a transaction adds the index that a text makes
abbrev AddsOne : {E : Type 0} → List ℕ → State → State → Result (Unit {0}) E → Type 0
AddsOne sql old new r = HasCleanDisk new → IsTrue old.in_transaction → OnOk r (GainsOne sql old.now new.now)

adds_one : {E : Type 0} (sql : List ℕ) → IsMaking sql (first sql) → (old new : State) (r : Result (Unit {0}) E) → Ran sql old new r → AddsOne sql old new r
adds_one sql making old new (Ok done) ran clean within = let it = ran clean within in gains sql making old new it.0 it.1
adds_one sql making old new (Err e) ran clean within = tt

pub adds_by_end : {E : Type 0} (old new : State) (r : Result (Unit {0}) E) → Ran MAKE_PLEDGES_BY_END.now old new r → AddsIndexes PledgesByEnd old new r
adds_by_end {E} old new r ran clean within = go r (adds_one MAKE_PLEDGES_BY_END.now makes_by_end old new r ran clean within) where
  go : (x : Result (Unit {0}) E) → OnOk x (GainsOne MAKE_PLEDGES_BY_END.now old.now new.now) → OnOk x (GainsIndexes (Some PledgesByEnd) old.now new.now)
  go (Ok done) one = gains_by_end old.now new.now one
  go (Err e) one = tt

pub adds_by_time : {E : Type 0} (old new : State) (r : Result (Unit {0}) E) → Ran MAKE_BOOKINGS_BY_TIME.now old new r → AddsIndexes BookingsByTime old new r
adds_by_time {E} old new r ran clean within = go r (adds_one MAKE_BOOKINGS_BY_TIME.now makes_by_time old new r ran clean within) where
  go : (x : Result (Unit {0}) E) → OnOk x (GainsOne MAKE_BOOKINGS_BY_TIME.now old.now new.now) → OnOk x (GainsIndexes (Some BookingsByTime) old.now new.now)
  go (Ok done) one = gains_by_time old.now new.now one
  go (Err e) one = tt

-- one, and then the other
pub adds_both : {E : Type 0} (a b c : State) (r : Result (Unit {0}) E) (ok : Bool) → IsLent a b true → IsLent b c ok
    → Ran {E = E} MAKE_PLEDGES_BY_END.now a b (Ok tt) → Ran MAKE_BOOKINGS_BY_TIME.now b c r → AddsIndexes Both a c r
adds_both {E} a b c r ok first second f g clean within = let was = clean_before b c ok second clean in
    go r (adds_one {E = E} MAKE_PLEDGES_BY_END.now makes_by_end a b (Ok tt) f was within)
    (adds_one MAKE_BOOKINGS_BY_TIME.now makes_by_time b c r g clean (first.inside was within refl))
  where
    go : (x : Result (Unit {0}) E) → GainsOne MAKE_PLEDGES_BY_END.now a.now b.now → OnOk x (GainsOne MAKE_BOOKINGS_BY_TIME.now b.now c.now)
        → OnOk x (GainsIndexes (Some Both) a.now c.now)
    go (Ok done) one two = gains_both a.now b.now c.now one two
    go (Err e) one two = tt
