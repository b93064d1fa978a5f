-- What the query for the pledge with a reference shows, where the tables stand for a host.
use Rattle.pawn_book.specs.Keeping.{pledges_of}
use Rattle.pawn_tables.proofs.BookReads.{same_texts}
use Rattle.pawn_tables.proofs.LineReads.{all_kept}
use Rattle.pawn_tables.proofs.OneEach.{first_each, tell_of}
use Rattle.pawn_tables.proofs.RowsUnderKey.{equals}
use Rattle.pawn_tables.specs.At.{is_at}
use Rattle.pawn_tables.specs.Common.{cons_option, get, list_all, Row, column, Shown, State, Text, PledgeValue}
use Rattle.pawn_tables.specs.Common.{BookValue, Host, number_of, is_same_text}
use Rattle.pawn_tables.specs.Heads.{number_cells}
use Rattle.pawn_tables.specs.Rows.{at_most_one, number, number_in_book, pledge_cells, under}
use Rattle.pawn_tables.specs.Schema.{pledges, pledges_tree}
use Rattle.pawn_tables.specs.StandsFor.{StandsFor}
use Rattle.std.proofs.Common.{◌≡◌, ◌==◌, ℕ, List, [], ◌∷◌, map, filter_map, find, take, Bool, true, false, cond, ◌&&◌}
use Rattle.std.proofs.Common.{Option, Some, None, refl, ap, ◌∙◌, option_map}
use Rattle.std.proofs.Math.Bool.{and-true}
use Rattle.pawn_tables.proofs.ReadTexts as text

abbrev has_ref : List ℕ → PledgeValue → Bool
has_ref s p = is_same_text p.agreement.opening.reference s

abbrev ref_told : List ℕ → PledgeValue → Option ℕ
ref_told s p = tell_of (has_ref s) (λ n (x : PledgeValue). n) (number_in_book p) (Some p)

abbrev at_ref : ℕ → List ℕ → Row → Bool
at_ref b s v = list_all (λ (x : Bool). x) (is_at (column v 0) (number b) ∷ is_at (column v 2) (Text s) ∷ [])

ref_passes : (b : ℕ) (s : List ℕ) (m n : ℕ) (p : PledgeValue) → at_ref b s (under m n (pledge_cells p)) ≡ ((m == b) && (true && has_ref s p))
ref_passes b s m n p = λ i. equals m b i && (and-true (is_at (Text p.agreement.opening.reference) (Text s)) ∙ same_texts p.agreement.opening.reference s) i

first_told : (s : List ℕ) (ps : List PledgeValue) → take 1 (map number_cells (filter_map (ref_told s) ps)) ≡ at_most_one number_cells
    (option_map (λ (p : PledgeValue). p.agreement.number) (find (has_ref s) ps))
first_told s [] = refl
first_told s (p ∷ ps) =
    elim (has_ref s p) as (λ c. take 1 (map number_cells (cons_option (cond c (Some (number_in_book p)) None) (filter_map (ref_told s) ps)))
    ≡ at_most_one number_cells (option_map (λ (p : PledgeValue). p.agreement.number) (cond c (Some p) (find (has_ref s) ps))))
    [ true ↦ refl | false ↦ first_told s ps ]

pub ref_shown : (h : Host) (b : ℕ) (s : List ℕ) (old new : State) (rows : List Row) → StandsFor old.now h
    → Shown text.FIND_REFERENCE.now (number b ∷ Text s ∷ []) old new rows → rows ≡ at_most_one number_cells (number_of (get h.books b) s)
ref_shown h b s old new rows st shown =
    first_each b (λ (p : PledgeValue). Some p) pledge_cells (at_ref b s) (λ n. true) (has_ref s) (λ n (x : PledgeValue). n) (λ v. column v 1 ∷ []) number_cells
    (ref_passes b s) (λ m n p. refl)
    old new st.schema h (record pledges { tree = pledges_tree }) st.pledges (λ _. refl) text.ref_tests (number b ∷ Text s ∷ [])
    (λ _. refl) text.FIND_REFERENCE.now _ rows 1 text.one_shown (λ _. refl) (λ _. refl) st.ordered ((text.texts st.schema.more).ref_is) shown
    ∙ ap (λ qs. take 1 (map number_cells (filter_map (ref_told s) qs))) (all_kept _) ∙ told (get h.books b) where
      told : (o : Option BookValue) → take 1 (map number_cells (filter_map (ref_told s) (pledges_of o))) ≡ at_most_one number_cells (number_of o s)
      told None = refl
      told (Some k) = first_told s k.pledges
