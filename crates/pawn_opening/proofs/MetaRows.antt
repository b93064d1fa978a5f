-- A row of what the store notes.
pub use Rattle.pawn_tables.proofs.Lent.{on_ran}
use Rattle.one_table.proofs.Rowed.{cast_null, cast_int}
use Rattle.one_table.proofs.Texts.{Puts}
use Rattle.pawn_opening.proofs.Basics.{IsPlace, inserted}
use Rattle.pawn_opening.specs.Common.{everything, understood, Row, Executes, State, Term, col, lit, Int, Null, Text}
use Rattle.pawn_opening.specs.Common.{Listed, Lists, with_rows, meta_row, PUT_NOTE}
use Rattle.pawn_tables.specs.Schema.{keep_schema, meta, meta_tree}
use Rattle.sqlite_rules.specs.Action.{works}
use Rattle.sqlite_schema.specs.declared.schema.Keys.TheVariants.{Enforced}
use Rattle.std.proofs.Common.{◌≡◌, inl, inr, ℕ, pos, ◌==◌, List, [], ◌∷◌, length, false, Ok, refl, arith}

abbrev pub note_values : List Term
note_values = lit Null ∷ col 0 0 ∷ col 0 1 ∷ []

note_is : Puts keep_schema PUT_NOTE.now 6 note_values 3
unfolding understood everything
note_is = (refl, (refl, refl))

-- no foreign key of the schema acts where a row is put
idle : (olds news : List Row) → works keep_schema Enforced 0 13 olds news ≡ []
idle olds [] = refl
idle olds (row ∷ news) = let e : (length (row ∷ news) == 0) ≡ false = grind arith in rw e refl

meta_place : IsPlace keep_schema 6 (record meta { tree = meta_tree })
meta_place = record {
  listed = refl;
  alone = (
    inr (λ e. absurd (omega (arith, e))),
    (
      inr (λ e. absurd (omega (arith, e))),
      (
        inr (λ e. absurd (omega (arith, e))),
        (
          inr (λ e. absurd (omega (arith, e))),
          (
            inr (λ e. absurd (omega (arith, e))),
            (inr (λ e. absurd (omega (arith, e))), (inl refl, (inr (λ e. absurd (omega (arith, e))), (inr (λ e. absurd (omega (arith, e))), tt)))),
          ),
        ),
      ),
    ),
  );
  idle = idle;
}

pub noted : (old new : State) (name : List ℕ) (value count : ℕ) (listed : Listed) → Lists keep_schema old.now listed → Executes PUT_NOTE.now
    (Text name ∷ Int (pos value) ∷ []) old new (Ok count) → Lists keep_schema new.now (with_rows listed meta_tree (meta_row name value ∷ listed meta_tree))
noted old new name value count listed st h =
    inserted keep_schema 6 (record meta { tree = meta_tree }) note_values 3 PUT_NOTE.now meta_place note_is.0 note_is.1 old new
    (Text name ∷ Int (pos value) ∷ []) (Null ∷ meta_row name value) (Null ∷ meta_row name value) (meta_row name value) count listed st refl
    (λ i. cast_null i ∷ Text name ∷ cast_int value i ∷ []) (λ rows. refl) h
