-- The records so far, and what they make.
use Rattle.csv.proofs.ReadFacts.{rows-end, rows-more}
use Rattle.csv.specs.declared.reader.Reader.{Reader}
use Rattle.pawn_csv.proofs.Basics.{◌≡◌, ◌∙◌, ◌+◌, ℕ, Bool, true, false, List, [], ◌∷◌, ◌++◌, length, map, Option, Some}
use Rattle.pawn_csv.proofs.Basics.{None, Result, Ok, Err, refl, sym, ap, subst, arith, nat_eq, inl, inr, IfErr, IfSome}
use Rattle.pawn_csv.proofs.Basics.{option_map, Each-push, length-append, nat_tests}
use Rattle.pawn_csv.specs.Answers.{AnswersBegun, Fails}
use Rattle.pawn_csv.specs.Common.{ErrorKind, ExplainsRead, NextIs, Reached, Read, ReadRecord, ReadsNext, State}
use Rattle.pawn_csv.specs.Common.{default_config, next_record, AreRecords, pending_of, source_of, strip_bom}
use Rattle.pawn_csv.specs.Order.{Begun, accept, run, then_run}
use Rattle.pawn_csv.specs.Reading.{AreTaken, AreTakenBefore, CauseOf, EndsReadingAs, IsFaultOf, IsFirstCause, IsSpelled}
use Rattle.pawn_csv.specs.Reading.{RefusesRow, Taking}
use Rattle.pawn_csv.specs.Rows.{FitsColumns, row_fields}
use Rattle.pawn_csv.specs.Types.{Cause, Row}
use Rattle.pawn_csv.specs.declared.fault.CsvFault.{CsvFault}
use Rattle.std.proofs.lemmas.List.{map-append}

pub record SoFar {R : Type 0} (rem : R → Option (List ℕ)) (text : List ℕ) (reader : Reader R) (index : ℕ) (raw : Option Begun) : Type 0 where
  pub rest : List ℕ
  pub source : source_of rem reader ≡ Some rest
  pub records : List (List (List ℕ))
  pub rows : List Row
  pub reached : Reached default_config State.StartRecord text records reader.state rest
  pub taken : AreTaken records rows raw
  pub count : length records ≡ index

-- one row after others
run-push : (rows : List Row) (r : Row) (s t : Option Begun) (b : Begun) → run s rows ≡ Ok t → accept t r ≡ Ok b → run s (rows ++ r ∷ []) ≡ Ok (Some b)
run-push [] r s t b ran placed = let same : s ≡ t = cc in rw (same, placed) refl
run-push (q ∷ rows) r s t b ran placed =
    elim (accept s q) as (λ v. then_run v (λ m. run m rows) ≡ Ok t → then_run v (λ m. run m (rows ++ r ∷ [])) ≡ Ok (Some b)) [
      | Ok m ↦ λ rest. run-push rows r (Some m) t b rest placed
      | Err e ↦ λ rest. cc
    ] ran

taken_more : {U : Type 0} (u : U) (records : List (List (List ℕ))) (rows : List Row) (i : ℕ) (f : List (List ℕ)) (raw new : Option Begun) → length records ≡ i
    → AreTaken records rows raw → Taking (nat_eq i 0) f raw (let r : Result U Cause = Ok u in r) new → (more : List Row) × AreTaken (records ++ f ∷ []) more new
taken_more u [] rows i f raw new count taken step =
    let first : nat_eq i 0 ≡ true = grind (arith, nat_tests, count) in
    let step' = rw first at step in
    ([], (step'.0, refl, tt, ap Ok (sym (step'.1 ∙ taken.1))))
taken_more u (h ∷ rs) rows i f raw new count taken step =
    let later : nat_eq i 0 ≡ false = grind (arith, nat_tests, count) in
    let (r, b, spelled, placed, is) = rw later at step in (
      rows ++ r ∷ [],
      (
        taken.0,
        ap (λ xs. xs ++ f ∷ []) taken.1 ∙ ap (λ x. map row_fields rows ++ x ∷ []) spelled.1 ∙ sym (map-append row_fields rows (r ∷ [])),
        Each-push FitsColumns rows r taken.2 spelled.0,
        run-push rows r None raw b taken.3 placed ∙ ap Ok (sym is),
      ),
    )

-- one record more
pub so_far_more : {R U : Type 0} (u : U) (rem : R → Option (List ℕ)) (text : List ℕ) (a b : Reader R) (i : ℕ) (f : List (List ℕ)) (raw new : Option Begun)
    → a.config ≡ default_config → SoFar rem text a i raw → ReadRecord rem a b true f → Taking (nat_eq i 0) f raw (let r : Result U Cause = Ok u in r) new
    → SoFar rem text b (i + 1) new
so_far_more u rem text a b i f raw new config so read step =
    let (z, at_z, reached) = rows-more rem a b f default_config State.StartRecord text so.rest so.records config so.source so.reached read in
    let (rows, taken) = taken_more u so.records so.rows i f raw new so.count so.taken step in
    record {
      rest = z;
      source = at_z;
      records = so.records ++ f ∷ [];
      rows = rows;
      reached = reached;
      taken = taken;
      count = grind (arith, length-append so.records (f ∷ []), so.count);
    }

-- the end of the text
abbrev pub EndsAt : List ℕ → Option Begun → ℕ → Type 0
EndsAt text s row = (records : List (List (List ℕ))) × (rows : List Row) × AreRecords default_config State.StartRecord text records
    × AreTaken records rows s × (length records + 1 ≡ row)

pub so_far_end : {R : Type 0} (rem : R → Option (List ℕ)) (text : List ℕ) (a b : Reader R) (i : ℕ) (f : List (List ℕ)) (raw : Option Begun)
    → a.config ≡ default_config → SoFar rem text a i raw → ReadRecord rem a b false f → EndsAt text raw (i + 1)
so_far_end rem text a b i f raw config so read =
    (so.records, so.rows, (a.state, so.rest, so.reached, rows-end rem a b f default_config so.rest config so.source read), so.taken, ap (λ n. n + 1) so.count)

-- a property of the bytes, if they are known
pub where_told : {A : Type 0} (o : Option A) (P : A → Type 0) → ((x : A) → o ≡ Some x → P x) → IfSome o P
where_told None P h = tt
where_told (Some x) P h = h x refl

-- what holds of the text after a byte order mark
pub bom_passed : (o : Option (List ℕ)) (P : List ℕ → Type 0) → IfSome (option_map strip_bom o) P → IfSome o (λ text. P (strip_bom text))
bom_passed None P h = tt
bom_passed (Some text) P h = h

-- the first fault is the fault of the text, whatever its cause
pub first_is : (text : List ℕ) (c : Cause) (row : ℕ) → IsFirstCause text c row → IsFaultOf text c row
first_is text Cause.Memory row h = h.at
first_is text Cause.Read row h = h.at
first_is text c row h = h

-- the records so far were accepted before the next row
abbrev pub so_far_before : {R : Type 0} (rem : R → Option (List ℕ)) (text : List ℕ) (a : Reader R) (i : ℕ) (raw : Option Begun) → SoFar rem text a i raw
    → AreTakenBefore text (i + 1)
so_far_before rem text a i raw so = record {
  before = so.records;
  rows = so.rows;
  state = a.state;
  rest = so.rest;
  begun = raw;
  reached = so.reached;
  taken = so.taken;
  place = ap (λ n. n + 1) so.count;
}

-- a CSV reader that accepts records of any length fails only because the inner reader failed or memory ran out
pub reader_fault : {R : Type 0} (rem : R → Option (List ℕ)) (text : List ℕ) (a b : Reader R) (i : ℕ) (raw : Option Begun) (k : ErrorKind) (c : Cause)
    → a.flexible ≡ true → SoFar rem text a i raw → ExplainsRead rem a b false k → CauseOf k c → IsFaultOf text c (i + 1)
reader_fault rem text a b i raw (ErrorKind.Io e) c flexible so why is =
    subst (λ (x : Cause). IsFaultOf text x (i + 1)) (sym is) (so_far_before rem text a i raw so)
reader_fault rem text a b i raw ErrorKind.OutOfMemory c flexible so why is =
    subst (λ (x : Cause). IsFaultOf text x (i + 1)) (sym is) (so_far_before rem text a i raw so)
reader_fault rem text a b i raw (ErrorKind.UnequalLengths pos expected len) c flexible so why is = absurd (let e = sym flexible ∙ why.0 in cc)
reader_fault rem text a b i raw (ErrorKind.Utf8 pos err) c flexible so why is = absurd (let e = why.0 in cc)
reader_fault rem text a b i raw (ErrorKind.Serialize t) c flexible so why is = absurd why
reader_fault rem text a b i raw (ErrorKind.Deserialize pos err) c flexible so why is = absurd why

-- the record that was read is the next one
next_is : (o : Option Read) (f : List (List ℕ)) (s : State) (ys : List ℕ) → NextIs o true f s ys → (p : Read) × (o ≡ Some p) × (f ≡ p.0)
next_is None f s ys h = cc
next_is (Some p) f s ys h = (p, refl, h.1)

next_was : (f : List (List ℕ)) (s : State) (k : Option (List ℕ)) (xs : List ℕ) (state : State) → ReadsNext default_config state (Some xs) k true f s
    → (p : Read) × (next_record default_config state [] [] xs ≡ Some p) × (f ≡ p.0)
next_was f s None xs state h = absurd h
next_was f s (Some ys) xs state h = next_is (next_record default_config state [] [] xs) f s ys h

-- after a refusal the state may be any
refused_as : (first : Bool) (f : List (List ℕ)) (raw new other : Option Begun) (c : Cause)
    → Taking first f raw (let r : Result (Unit {0}) Cause = Err c in r) new → Taking first f raw (let r : Result (Unit {0}) Cause = Err c in r) other
refused_as true f raw new other c h = h
refused_as false f raw new other c h = h

-- the row that was read is refused
pub so_far_refused : {R : Type 0} (rem : R → Option (List ℕ)) (text : List ℕ) (a b : Reader R) (i : ℕ) (f : List (List ℕ)) (raw new : Option Begun) (c : Cause)
    → a.config ≡ default_config → SoFar rem text a i raw → ReadRecord rem a b true f
    → Taking (nat_eq i 0) f raw (let r : Result (Unit {0}) Cause = Err c in r) new → IsFaultOf text c (i + 1)
so_far_refused rem text a b i f raw new c config so read step =
    let (p, is, same) = next_was f b.state (pending_of (rem b.rdr) b) so.rest a.state (rw (config, so.source) at read.0) in
    first_is text c (i + 1) (record {
      at = so_far_before rem text a i raw so;
      why = inl (
        p,
        is,
        rw same at (refused_as (nat_eq (length so.records) 0) f raw new raw c
            (subst (λ n. Taking (nat_eq n 0) f raw (let r : Result (Unit {0}) Cause = Err c in r) new) (sym so.count) step)),
      );
    })

-- the end is refused
pub end_fault : {A : Type 0} (o : Option (List ℕ)) (s : Option Begun) (row : ℕ) (res : Result A CsvFault)
    → IfSome (option_map strip_bom o) (λ text. EndsAt text s row)
    → IfErr res (λ f. (f.row ≡ row) × ((records : List (List (List ℕ))) → length records + 1 ≡ row → EndsReadingAs records s f.cause))
    → IfErr res (λ f. IfSome o (λ text. IsFaultOf (strip_bom text) f.cause f.row))
end_fault None s row (Err f) ends h = tt
end_fault (Some text) s row (Err f) (records, rows, (state, rest, reached, last), taken, place) (same, why) =
    subst (IsFaultOf (strip_bom text) f.cause) (sym same) (first_is (strip_bom text) f.cause row (record {
      at = record { before = records; rows = rows; state = state; rest = rest; begun = s; reached = reached; taken = taken; place = place };
      why = inr (last, why records place);
    }))
end_fault o s row (Ok k) ends h = tt

refused_for : (fs : List (List ℕ)) (s : Option Begun) (r : Row) (c : Cause) → IsSpelled fs r → Fails (accept s r) c → RefusesRow fs s c
refused_for fs s r Cause.Memory spelled h = inl refl
refused_for fs s r c spelled h = inr (inr (inr (r, spelled, h)))

-- a row that is placed, or refused there
pub placed_is : {U : Type 0} (first : Bool) (fs : List (List ℕ)) (s new : Option Begun) (r : Row) (res : Result U Cause) → first ≡ false → IsSpelled fs r
    → AnswersBegun (accept s r) res new → Taking first fs s res new
placed_is true fs s new r res is spelled h = cc
placed_is false fs s new r (Ok u) is spelled h = (r, h.0, spelled, h.1, h.2)
placed_is false fs s new r (Err e) is spelled h = refused_for fs s r e spelled h
