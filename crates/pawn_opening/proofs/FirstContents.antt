-- An empty store, table by table, note by note, and then its indexes.
use Rattle.pawn_opening.proofs.Basics.{clean_before}
use Rattle.pawn_opening.proofs.EmptyHost.{stands_empty}
use Rattle.pawn_opening.proofs.Gained.{gains_stands}
use Rattle.pawn_opening.specs.Common.{Schema, State, Error, no_schema, IsLent, with_rows, meta_row, StandsFor}
use Rattle.pawn_opening.specs.Indexing.{AddsIndexes, AreLacked, GainsIndexes, HasBothIndexes}
use Rattle.pawn_opening.specs.Laying.{Makes, Notes, no_rows}
use Rattle.pawn_opening.specs.Opened.{MakesFirstContent, empty_host}
use Rattle.pawn_opening.specs.declared.indexing.Lacking.TheVariants.{Both}
use Rattle.pawn_tables.specs.Schema.{keep_schema}
use Rattle.std.proofs.Common.{◌≡◌, ◌++◌, ℕ, true, [], ◌∷◌, codes, Result, OnOk, Ok, Err, Some, refl, ap, subst, ◌∙◌}
use Rattle.std.proofs.Common.{is_ok}

module _ (a b c d e f : State) (limit : ℕ) (r : Result (Unit {0}) Error) where
  pub content_made : Makes {E = Error} a b (Ok tt) no_schema keep_schema → IsLent a b true → Notes {E = Error} b c (Ok tt) (meta_row (codes "limit") limit)
      → IsLent b c true → Notes {E = Error} c d (Ok tt) (meta_row (codes "rows") 0) → IsLent c d true
      → Notes {E = Error} d e (Ok tt) (meta_row (codes "schema") 3) → IsLent d e true → AddsIndexes Both e f r → IsLent e f (is_ok r)
      → MakesFirstContent a f limit r
  content_made tables part one first two second three third adds fourth clean within st = let clean-e = clean_before e f (is_ok r) fourth clean in
      let clean-d = clean_before d e true third clean-e in let clean-c = clean_before c d true second clean-d in
      let clean-b = clean_before b c true first clean-c in let made = tables clean-b within st in
      let within-b = part.inside clean-b within refl in let within-c = first.inside clean-c within-b refl in
      let within-d = second.inside clean-d within-c refl in let within-e = third.inside clean-e within-d refl in
      let l1 = one clean-c within-b no_rows made in
      let l2 = two clean-d within-c (with_rows no_rows 13 (meta_row (codes "limit") limit ∷ [])) l1 in
      let l3 = three clean-e within-d
      (with_rows (with_rows no_rows 13 (meta_row (codes "limit") limit ∷ [])) 13 (meta_row (codes "rows") 0 ∷ meta_row (codes "limit") limit ∷ [])) l2 in
      last r (stands_empty e.now limit l3) l3.schema_is (adds clean within-e) where
        last : (r' : Result (Unit {0}) Error) → StandsFor e.now (empty_host limit) → e.now.schema ≡ keep_schema
            → OnOk r' (GainsIndexes (Some Both) e.now f.now) → OnOk r' (StandsFor f.now (empty_host limit) × HasBothIndexes f.now.schema)
        last (Ok done) st bare gains = (
          gains_stands e.now f.now (empty_host limit) gains st,
          (
            gains.more,
            subst (λ (s : Schema). AreLacked (Some Both) s.tables gains.more) bare gains.lacked,
            gains.is ∙ ap (λ (s : Schema). record s { indexes = s.indexes ++ gains.more }) bare,
          ),
        )
        last (Err fault) st bare gains = tt
