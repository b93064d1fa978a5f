-- Rows that are put one after another.
use Rattle.one_table.proofs.Parts.{kept_then}
use Rattle.pawn_saving.proofs.Basics.{map-append, take_more, IsPermutation-append, IsPermutation-append_comm}
use Rattle.pawn_saving.proofs.Basics.{IsPermutation-refl, clean_before, same_tree}
use Rattle.pawn_saving.proofs.Hosting.{relisted_by}
use Rattle.pawn_saving.specs.Common.{Database, with_rows, ListsOurs}
use Rattle.pawn_saving.specs.RowWrites.{IsCarried}
use Rattle.pawn_tables.proofs.Basics.{nat_tests}
use Rattle.pawn_tables.specs.Common.{Row, HasCleanDisk, State, IsLent, Listed}
use Rattle.pawn_tables.specs.Rows.{placed_from}
use Rattle.sqlite.proofs.StateLemmas.{survives_then}
use Rattle.std.proofs.Common.{◌≡◌, ◌++◌, ◌==◌, false, ℕ, ◌+◌, ◌<◌, List, [], ◌∷◌, map, take, length, get_or, Bool, true}
use Rattle.std.proofs.Common.{IsTrue, refl, sym, ap, subst, ◌∙◌, arith, IsPermutation, if◌then◌else◌, length-take-le}
use Rattle.std.proofs.Common.{inl}

-- nothing was done
pub carried_none : (s : State) → IsCarried s s true
carried_none s = record {
  kept = λ clean within. record { was_open = λ now. now; committed = λ now. refl };
  inside = λ clean within ok. within;
  survives = record { clean = omega arith; shield = λ h. h; counts = omega arith; limit = refl; closes = λ clean now. inl now; crash = λ clean db x. inl x };
}

pub was_clean : (a b : State) (ok : Bool) → IsCarried a b ok → HasCleanDisk b → HasCleanDisk a
was_clean a b ok l clean = let up = l.survives.clean in omega (arith, clean, up)

pub both_carried : (a b c : State) (ok : Bool) → IsCarried a b true → IsCarried b c ok → IsCarried a c ok
both_carried a b c ok f s = record {
  kept = λ clean within. let was = was_clean b c ok s clean in kept_then a b c (f.kept was within) (s.kept clean (f.inside was within refl));
  inside = λ clean within is_ok. let was = was_clean b c ok s clean in s.inside clean (f.inside was within refl) is_ok;
  survives = survives_then a b c _ _ (λ _. ⊥) (λ _ db none. none) (λ _ db none. none) f.survives s.survives;
}

-- a borrowed part of the transaction was carried
pub is_carried : (a b : State) (ok : Bool) → IsLent a b ok → IsCarried a b ok
is_carried a b ok l = record { kept = l.kept; inside = l.inside; survives = l.survives }

pub carried_then : (a b c : State) (ok : Bool) → IsCarried a b true → IsLent b c ok → IsCarried a c ok
carried_then a b c ok f s = both_carried a b c ok f (is_carried b c ok s)

pub lent_carried : (a b c : State) (ok : Bool) → IsLent a b true → IsCarried b c ok → IsLent a c ok
lent_carried a b c ok f s = let both = both_carried a b c ok (is_carried a b true f) s in
    record { kept = both.kept; opened = λ clean within is_ok. f.opened (was_clean b c ok s clean) within refl; inside = both.inside; survives = both.survives }

-- the disk was clean, and the transaction went on, where the second and the third of three parts began
pub of_three : {old one two new : State} {ok : Bool} → IsCarried old one true → IsCarried one two true → IsCarried two new ok → HasCleanDisk new
    → IsTrue old.in_transaction → HasCleanDisk one × IsTrue one.in_transaction × HasCleanDisk two × IsTrue two.in_transaction
of_three {old = old} {one = one} {two = two} {new = new} {ok = ok} f s t clean within = let clean2 = was_clean two new ok t clean in
    let clean1 = was_clean one two true s clean2 in let within1 = f.inside clean1 within refl in
    (clean1, within1, clean2, s.inside clean2 within1 refl)

-- a borrowed part that succeeded, whatever follows
pub lent_anyway : (a b : State) → IsLent a b true → (ok : Bool) → IsLent a b ok
lent_anyway a b f ok =
    record { kept = f.kept; opened = λ clean begun o. f.opened clean begun refl; inside = λ clean begun o. f.inside clean begun refl; survives = f.survives }

-- the rows that were put so far have joined the others of their table
pub record ArePut (tree : ℕ) (old new : State) (rows : List Row) : Type 0 where
  pub carried : IsCarried old new true
  pub lists : HasCleanDisk new → IsTrue old.in_transaction → (listed : Listed) → ListsOurs old.now listed
      → ListsOurs new.now (with_rows listed tree (rows ++ listed tree))

-- the rows of one table, put again or in another order
again : (b : Bool) (xs ys rest : List Row) → IsPermutation xs ys → IsPermutation (if b then xs else rest) (if b then ys else rest)
again true xs ys rest same = same
again false xs ys rest same = IsPermutation-refl rest

pub reordered : (db : Database) (listed : Listed) (tree : ℕ) (xs ys : List Row) → IsPermutation xs ys → ListsOurs db (with_rows listed tree ys)
    → ListsOurs db (with_rows listed tree xs)
reordered db listed tree xs ys same l = relisted_by db _ _ (λ t. again (t == tree) xs ys (listed t) same) l

-- the rows of a table are put in place of others that were put before
over : (b : Bool) (xs ys rest : List Row) → IsPermutation (if b then xs else rest) (if b then xs else (if b then ys else rest))
over true xs ys rest = IsPermutation-refl xs
over false xs ys rest = IsPermutation-refl rest

pub put_over : (db : Database) (listed : Listed) (tree : ℕ) (xs ys : List Row) → ListsOurs db (with_rows (with_rows listed tree ys) tree xs)
    → ListsOurs db (with_rows listed tree xs)
put_over db listed tree xs ys l = relisted_by db _ _ (λ t. over (t == tree) xs ys (listed t)) l

-- a table as it is
as_is : (b : Bool) (t tree : ℕ) (listed : Listed) → (t == tree) ≡ b → IsPermutation (if b then listed tree else listed t) (listed t)
as_is true t tree listed is = let same : t ≡ tree = grind (arith, nat_tests, is) in subst (λ n. IsPermutation (listed n) (listed t)) same (IsPermutation-refl _)
as_is false t tree listed is = IsPermutation-refl _

pub nothing_put : (db : Database) (listed : Listed) (tree : ℕ) → ListsOurs db listed → ListsOurs db (with_rows listed tree (listed tree))
nothing_put db listed tree l = relisted_by db _ _ (λ t. as_is (t == tree) t tree listed refl) l

at_end : (rows more : List Row) (row : Row) → IsPermutation ((rows ++ row ∷ []) ++ more) (row ∷ rows ++ more)
at_end rows more row = IsPermutation-append _ _ more more (IsPermutation-append_comm rows (row ∷ [])) (IsPermutation-refl more)

-- what a table lists once rows were put in it
here_put : (tree : ℕ) (listed : Listed) (rows : List Row) → with_rows listed tree rows tree ≡ rows
here_put tree listed rows = ap (λ b. if b then rows else listed tree) (same_tree tree)

pub one_put : (tree : ℕ) (old mid new : State) (rows next : List Row) (row : Row) → next ≡ rows ++ row ∷ [] → ArePut tree old mid rows → IsLent mid new true
    → (HasCleanDisk new → IsTrue mid.in_transaction → (listed : Listed) → ListsOurs mid.now listed
    → ListsOurs new.now (with_rows listed tree (row ∷ listed tree))) → ArePut tree old new next
one_put tree old mid new rows next row is put lent wrote = subst (ArePut tree old new) (sym is) (record {
  carried = carried_then old mid new true put.carried lent;
  lists = λ clean within listed l.
      let was = clean_before mid new true lent clean in let so_far = with_rows listed tree (rows ++ listed tree) in
      let one = wrote clean (put.carried.inside was within refl) so_far (put.lists was within listed l) in
      let shown = subst (λ rs. ListsOurs new.now (with_rows so_far tree (row ∷ rs))) (here_put tree listed (rows ++ listed tree)) one in
      reordered new.now listed tree _ _ (at_end rows (listed tree) row) (put_over new.now listed tree _ _ shown);
})

-- ---- the elements so far

pub until : {A : Type 0} (xs : List A) (i : ℕ) (x : A) → i < length xs → x ≡ get_or xs i x → take (i + 1) xs ≡ take i xs ++ x ∷ []
until xs i x lt is = take_more xs i x lt ∙ ap (λ y. take i xs ++ y ∷ []) (sym is)

pub take_map : {A : Type 0} (f : A → Row) (xs : List A) (i : ℕ) (x : A) → i < length xs → x ≡ get_or xs i x
    → map f (take (i + 1) xs) ≡ map f (take i xs) ++ f x ∷ []
take_map f xs i x lt is = ap (map f) (until xs i x lt is) ∙ map-append f (take i xs) (x ∷ [])

-- ---- the elements so far, with their places

pub placed_parts : {A : Type 0} (f : ℕ → A → Row) (at next : ℕ) (xs ys : List A) → next ≡ at + length xs
    → placed_from f at (xs ++ ys) ≡ placed_from f at xs ++ placed_from f next ys
placed_parts f at next [] ys is = let same : at ≡ next = omega (arith, is) in ap (λ n. placed_from f n ys) same
placed_parts f at next (x ∷ xs) ys is = ap (λ l. f at x ∷ l) (placed_parts f (at + 1) next xs ys (omega (arith, is)))

pub take_placed : {A : Type 0} (f : ℕ → A → Row) (from at : ℕ) (xs : List A) (i : ℕ) (x : A) → i < length xs → x ≡ get_or xs i x → at ≡ from + i
    → placed_from f from (take (i + 1) xs) ≡ placed_from f from (take i xs) ++ f at x ∷ []
take_placed f from at xs i x lt is place = let len = length-take-le i xs (omega (arith, lt)) in
    ap (placed_from f from) (until xs i x lt is) ∙ placed_parts f from at (take i xs) (x ∷ []) (omega (arith, len, place))
