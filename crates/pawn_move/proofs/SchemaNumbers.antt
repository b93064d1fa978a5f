-- Tables that stand for a host under a schema note its number, and it is returned.
use Rattle.one_table.specs.Columns.{no_schema}
use Rattle.pawn_move.proofs.Basics.{as_lists, as_stands, with_tables, MoveFault, NotOurs, NewerSchema, Damaged, Store}
use Rattle.pawn_move.proofs.Basics.{Memory}
use Rattle.pawn_move.specs.Migrating.{IsFailure, KnowsSchema, IsSameNumber, IsNotOurs, HasNoKnownSchema, StatesNumber}
use Rattle.pawn_move.specs.StandsUnder.{IsSchema, ListsBy, StandsUnder, ThirdIsOurs, listed_under}
use Rattle.pawn_opening.specs.Common.{everything, understood, State, Host, rows, Holds, notes, with_indexes}
use Rattle.pawn_opening.specs.Common.{READ_SCHEMA}
use Rattle.pawn_opening.specs.Opened.{StatesSchema}
use Rattle.pawn_opening.specs.Refusing.{IsEmptyStore, IsNoted, NotesNoSchema, NotesSchema}
use Rattle.pawn_opening.specs.declared.fault.OpenFault.{OpenFault}
use Rattle.pawn_tables.specs.Schema.{first_schema, meta, meta_tree, second_schema}
use Rattle.sqlite.specs.Effect.{Database}
use Rattle.sqlite.specs.Listing.{listing_schema}
use Rattle.sqlite.specs.Schema.{Schema}
use Rattle.sqlite_resolve.specs.declared.compiled.Compiled.{Compiled}
use Rattle.sqlite_resolve.specs.declared.error.CompileError.{CompileError}
use Rattle.std.proofs.Common.{◌≡◌, ◌==◌, inl, inr, ℕ, Bool, true, false, Option, Some, None, Ok, Err, Result, IsTrue}
use Rattle.std.proofs.Common.{refl, sym, ap, subst, ◌∙◌, arith, IfErr, IfOk, IfSome}
use Rattle.pawn_opening.proofs.Ours as ours

-- ---- the third schema is the program's

pub third_is_ours : ThirdIsOurs
third_is_ours = record {
  ours = λ db h st. let l = as_lists db h st in record {
    lists = with_tables l l.lists.tables;
    unextended = λ below. absurd (omega (arith, below));
    ordered = st.ordered;
    storable = st.storable;
  };
  third = λ db h st. as_stands db h (with_tables st.lists st.lists.lists.tables) st.ordered st.storable;
}

-- ---- the number is noted

asks_first : ours.AsksMeta first_schema
unfolding understood everything
asks_first = (refl, refl, (refl, refl))

asks_second : ours.AsksMeta second_schema
unfolding understood everything
asks_second = (refl, refl, (refl, refl))

-- the schema under which meta is asked for the number, and what it notes
abbrev Known : Database → Host → ℕ → Type 0
Known db h n = (s : Schema) × ours.AsksMeta s × (db.schema ≡ s) × Holds db.trees meta_tree (record meta { tree = meta_tree }) (notes n (rows h) h.limit)

known_by : (first second : Bool) (n : ℕ) (db : Database) (h : Host) → ListsBy first second db (listed_under n h) → Known db h n
known_by true second n db h l = (first_schema, asks_first, l.schema_is, l.tables.1.1.1.1.1.1.0)
known_by false true n db h l = (second_schema, asks_second, l.schema_is, l.tables.1.1.1.1.1.1.0)
known_by false false n db h l = (with_indexes l.more, ours.schema_is l.more, l.lists.schema_is, l.lists.tables.1.1.1.1.1.1.0)

module _ (n : ℕ) (db : Database) (h : Host) (st : StandsUnder n db h) where
  under : Known db h n
  under = known_by (n == 1) (n == 2) n db h st.lists

  pub only_number : (m : ℕ) → NotesSchema db m → m ≡ n
  only_number = ours.only_number db under.0 under.1 n (rows h) h.limit under.2 under.3

  pub notes_some : NotesNoSchema db → ⊥
  notes_some = ours.notes_some db under.0 under.1 n (rows h) h.limit under.2 under.3

-- ---- an empty store notes none

abbrev Refuses : Result Compiled CompileError → Type 0
Refuses (Ok means) = ⊥
Refuses (Err fault) = Unit {0}

refuses_all : Refuses (understood no_schema READ_SCHEMA.now)
unfolding understood listing_schema everything
refuses_all = tt

pub notes_none : (db : Database) → IsEmptyStore db → (n : ℕ) → NotesSchema db n → ⊥
notes_none db empty n it = subst Refuses (sym (ap (λ s. understood s READ_SCHEMA.now) empty) ∙ it.1.is_understood) refuses_all

-- ---- and returned

module _ (old new : State) where
  accepted : (r : Result ℕ MoveFault) (o : Option ℕ) → KnowsSchema o r → IsNoted old.now o → IfSome o (λ n. IsTrue new.is_open)
      → IfOk r (λ n. NotesSchema old.now n × IsTrue new.is_open)
  accepted (Err why) o v is usable = tt
  accepted (Ok n) None v is usable = absurd (let e = v.0 in cc)
  accepted (Ok n) (Some m) v is usable = let same : m ≡ n = (let e = v.0 in cc) in (subst (NotesSchema old.now) same is, usable)

  known : (r : Result ℕ MoveFault) (o : Option ℕ) → KnowsSchema o r → IfOk r IsSchema
  known (Ok n) o v = v.1
  known (Err why) o v = tt

  represented : (n : ℕ) (h : Host) → IsSchema n → StandsUnder n old.now h → (r : Result ℕ MoveFault) (o : Option ℕ) → KnowsSchema o r → IsNoted old.now o
      → IsSameNumber n r
  represented n h schema st (Ok m) None v is = absurd (let e = v.0 in cc)
  represented n h schema st (Ok m) (Some k) v is = let same : k ≡ m = (let e = v.0 in cc) in sym same ∙ only_number n old.now h st k is
  represented n h schema st (Err NotOurs) None v is = notes_some n old.now h st is
  represented n h schema st (Err NotOurs) (Some k) (inl none) is = absurd (let e = none in cc)
  represented n h schema st (Err NotOurs) (Some k) (inr zero') is = let same : k ≡ 0 = (let e = zero' in cc) in
      let only = only_number n old.now h st k is in let least = schema.0 in
      absurd (omega (arith, same, only, least))
  represented n h schema st (Err NewerSchema) None v is = absurd (let e = v.1 in cc)
  represented n h schema st (Err NewerSchema) (Some k) v is = let same : k ≡ v.0 = (let e = v.1 in cc) in
      let far = v.2 in let only = only_number n old.now h st k is in
      let most = schema.1 in
      absurd (omega (arith, same, far, only, most))
  represented n h schema st (Err Damaged) o v is = v
  represented n h schema st (Err Store) o v is = tt
  represented n h schema st (Err Memory) o v is = tt

  refused : (r : Result ℕ MoveFault) (o : Option ℕ) → KnowsSchema o r → IsNoted old.now o → IfErr r (HasNoKnownSchema old.now)
  refused (Ok n) o v is = tt
  refused (Err NotOurs) None v is = inl is
  refused (Err NotOurs) (Some k) (inl none) is = absurd (let e = none in cc)
  refused (Err NotOurs) (Some k) (inr zero') is = let same : k ≡ 0 = (let e = zero' in cc) in inr (subst (NotesSchema old.now) same is)
  refused (Err NewerSchema) None v is = absurd (let e = v.1 in cc)
  refused (Err NewerSchema) (Some k) v is = let same : k ≡ v.0 = (let e = v.1 in cc) in (v.0, subst (NotesSchema old.now) same is, v.2)
  refused (Err Damaged) o v is = absurd v
  refused (Err Store) o v is = tt
  refused (Err Memory) o v is = tt

  bare : IsEmptyStore old.now → (r : Result ℕ MoveFault) (o : Option ℕ) → KnowsSchema o r → IsNoted old.now o → IsNotOurs r
  bare empty (Ok n) None v is = absurd (let e = v.0 in cc)
  bare empty (Ok n) (Some k) v is = notes_none old.now empty k is
  bare empty (Err NotOurs) o v is = tt
  bare empty (Err NewerSchema) None v is = absurd (let e = v.1 in cc)
  bare empty (Err NewerSchema) (Some k) v is = notes_none old.now empty k is
  bare empty (Err Damaged) o v is = absurd v
  bare empty (Err Store) o v is = tt
  bare empty (Err Memory) o v is = tt

  pub told : (noted : Option ℕ) (r : Result ℕ MoveFault) → StatesSchema old new (Ok noted) → KnowsSchema noted r → StatesNumber old new r
  told noted r it verdict = record {
    known = known r noted verdict;
    ok = λ clean. accepted r noted verdict (it.ok clean) (it.usable clean);
    stands = λ clean n h schema st. represented n h schema st r noted verdict (it.ok clean);
    refused = λ clean. refused r noted verdict (it.ok clean);
    empty = λ clean none. bare none r noted verdict (it.ok clean);
    same = it.same;
    ended = it.ended;
    survives = it.survives;
  }

  unmovable : (why : MoveFault) → IsFailure why → HasNoKnownSchema old.now why
  unmovable NotOurs none = absurd none
  unmovable NewerSchema none = absurd none
  unmovable Damaged none = absurd none
  unmovable Store it = tt
  unmovable Memory it = tt

  none_of_ours : (why : MoveFault) → IsFailure why → IsNotOurs {A = ℕ} (Err why)
  none_of_ours NotOurs none = tt
  none_of_ours NewerSchema none = none
  none_of_ours Damaged none = none
  none_of_ours Store it = it
  none_of_ours Memory it = it

  pub not_told : (cause : OpenFault) (why : MoveFault) → StatesSchema old new (Err cause) → IsFailure why → StatesNumber old new (Err why)
  not_told cause why it failure = record {
    known = tt;
    ok = λ clean. tt;
    stands = λ clean n h schema st. failure;
    refused = λ clean. unmovable why failure;
    empty = λ clean none. none_of_ours why failure;
    same = it.same;
    ended = it.ended;
    survives = it.survives;
  }
