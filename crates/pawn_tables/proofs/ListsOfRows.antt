-- Lists that are read of rows, one row for each element.
use Rattle.pawn_base.proofs.ListLemmas.{take_next}
use Rattle.pawn_tables.specs.Common.{Row, Each, KeepError, Database, NoRecord}
use Rattle.pawn_tables.specs.Finding.{Finds, IsRead}
use Rattle.pawn_tables.specs.Rows.{at_most_one, placed_from}
use Rattle.std.proofs.Common.{◌≡◌, ◌++◌, ℕ, zero, suc, ◌+◌, ◌<◌, List, [], ◌∷◌, length, take, map, get_or, slice_get}
use Rattle.std.proofs.Common.{Option, Some, None, Result, Ok, Err, refl, sym, ap, subst, ◌∙◌, arith, IfSome}
use Rattle.pawn_book.specs.declared.fault.KeepError.TheVariants as Keeper

-- the element of a row, with its place
pub element_at : {A : Type 0} (f : ℕ → A → Row) (k : ℕ) (xs : List A) (rows : List Row) (i : ℕ) (r : Row) → rows ≡ placed_from f k xs → i < length rows
    → r ≡ get_or rows i r → (place : ℕ) × (x : A) × (r ≡ f place x) × (slice_get xs i ≡ Some x)
element_at f k [] rows i r are lt is = absurd (let e = subst (λ rs. i < length rs) are lt in omega (arith, e))
element_at f k (x ∷ xs) rows zero r are lt is = (k, x, is ∙ ap (λ rs. get_or rs 0 r) are, refl)
element_at f k (x ∷ xs) rows (suc i) r are lt is = let short : suc i < suc (length (placed_from f (k + 1) xs)) = subst (λ rs. suc i < length rs) are lt in
    element_at f (k + 1) xs (placed_from f (k + 1) xs) i r refl (omega (arith, short)) (is ∙ ap (λ rs. get_or rs (suc i) r) are)

pub each_at : {A : Type 0} (P : A → Type 0) (xs : List A) (i : ℕ) (x : A) → slice_get xs i ≡ Some x → Each P xs → P x
each_at P [] i x at all = absurd (let e = at in cc)
each_at P (y ∷ xs) zero x at all = let same : y ≡ x = (let e = at in cc) in subst P same all.0
each_at P (y ∷ xs) (suc i) x at all = each_at P xs i x at all.1

take_all_placed : {A : Type 0} (f : ℕ → A → Row) (k : ℕ) (xs : List A) → take (length (placed_from f k xs)) xs ≡ xs
take_all_placed f k [] = refl
take_all_placed f k (x ∷ xs) = ap (λ l. x ∷ l) (take_all_placed f (k + 1) xs)

-- what is read so far of the rows of any list
abbrev pub AreReadTo : {A : Type 0} → (ℕ → A → Row) → (A → Type 0) → List Row → ℕ → List A → Type 0
AreReadTo {A = A} f W rows i got = (from : ℕ) (xs : List A) → Each W xs → rows ≡ placed_from f from xs → got ≡ take i xs

-- one more is read
pub placed_more : {A : Type 0} (f : ℕ → A → Row) (W P : A → Type 0) (rows : List Row) (i : ℕ) (got more : List A) (r : Row) (y : A) → i < length rows
    → r ≡ get_or rows i r → more ≡ got ++ y ∷ [] → ((place : ℕ) (x : A) → W x → r ≡ f place x → IsRead (Ok y) x (P x)) → AreReadTo f W rows i got
    → AreReadTo f W rows (i + 1) more
placed_more f W P rows i got more r y lt is grown read so from xs words are = let at = element_at f from xs rows i r are lt is in
    let same = read at.0 at.1 (each_at W xs i at.1 at.3 words) at.2 in let next : i + 1 ≡ suc i = omega arith in
    grown ∙ ap (λ z. got ++ z ∷ []) same ∙ ap (λ l. l ++ at.1 ∷ []) (so from xs words are) ∙ sym (take_next xs i at.1 at.3) ∙ ap (λ n. take n xs) (sym next)

-- an element that cannot be kept is the reason why a row cannot be decoded
pub placed_err : {A : Type 0} (f : ℕ → A → Row) (W P : A → Type 0) (rows : List Row) (i : ℕ) (r : Row) (e : KeepError) → i < length rows → r ≡ get_or rows i r
    → ((place : ℕ) (x : A) → W x → r ≡ f place x → IsRead (Err e) x (P x)) → (from : ℕ) (xs : List A) → Each W xs → rows ≡ placed_from f from xs
    → IsRead (Err e) xs (Each P xs)
placed_err f W P rows i r Keeper.Memory lt is read from xs words are = tt
placed_err f W P rows i r (Keeper.Store Database) lt is read from xs words are = tt
placed_err f W P rows i r (Keeper.Store NoRecord) lt is read from xs words are = λ all.
    let at = element_at f from xs rows i r are lt is in
    read at.0 at.1 (each_at W xs i at.1 at.3 words) at.2 (each_at P xs i at.1 at.3 all)

-- all are read
pub placed_whole : {A : Type 0} (f : ℕ → A → Row) (W : A → Type 0) (rows : List Row) (i : ℕ) (got : List A) → i ≡ length rows → AreReadTo f W rows i got
    → (from : ℕ) (xs : List A) → Each W xs → rows ≡ placed_from f from xs → got ≡ xs
placed_whole f W rows i got end so from xs words are = so from xs words are ∙ ap (λ n. take n xs) (end ∙ ap length are) ∙ take_all_placed f from xs

-- elements without their places
pub mapped : {A : Type 0} (f : A → Row) (k : ℕ) (xs : List A) → map f xs ≡ placed_from (λ place x. f x) k xs
mapped f k [] = refl
mapped f k (x ∷ xs) = ap (λ l. f x ∷ l) (mapped f (k + 1) xs)

pub each_any : {A : Type 0} (xs : List A) → Each (λ x. Unit {0}) xs
each_any [] = tt
each_any (x ∷ xs) = (tt, each_any xs)

-- ---- one row, or none

pub first_err : {A : Type 0} (f : A → Row) (P : A → Type 0) (rows : List Row) (r : Row) (e : KeepError) → r ≡ get_or rows 0 r → 0 < length rows
    → ((x : A) → r ≡ f x → IsRead (Err e) x (P x)) → (o : Option A) → rows ≡ at_most_one f o → IsRead (Err e) o (IfSome o P)
first_err f P rows r e is lt read None are = absurd (let short = subst (λ rs. 0 < length rs) are lt in omega (arith, short))
first_err f P rows r Keeper.Memory is lt read (Some x) are = tt
first_err f P rows r (Keeper.Store Database) is lt read (Some x) are = tt
first_err f P rows r (Keeper.Store NoRecord) is lt read (Some x) are = read x (is ∙ ap (λ rs. get_or rs 0 r) are)

-- what can be kept is kept in part
pub read_part : {A : Type 0} (e : KeepError) (x : A) (Q R : Type 0) → (R → Q) → IsRead (Err e) x Q → IsRead (Err e) x R
read_part Keeper.Memory x Q R part f = tt
read_part (Keeper.Store Database) x Q R part f = tt
read_part (Keeper.Store NoRecord) x Q R part f = λ whole. f (part whole)

-- the same error for something else, which can be kept only if the first can
pub read_other : {A B : Type 0} (e : KeepError) (x : A) (y : B) (Q R : Type 0) → (R → Q) → IsRead (Err e) x Q → IsRead (Err e) y R
read_other Keeper.Memory x y Q R part f = tt
read_other (Keeper.Store Database) x y Q R part f = tt
read_other (Keeper.Store NoRecord) x y Q R part f = λ whole. f (part whole)

-- what can always be read is not refused as a row that cannot be decoded
pub always_read : {A B : Type 0} (e : KeepError) (x : A) (y : B) (Q : Type 0) → IsRead (Err e) x (Unit {0}) → IsRead (Err e) y Q
always_read Keeper.Memory x y Q f = tt
always_read (Keeper.Store Database) x y Q f = tt
always_read (Keeper.Store NoRecord) x y Q f = absurd (f tt)

-- nor are lists of such
pub always_all : {A B : Type 0} (e : KeepError) (xs : List A) (y : B) (Q : Type 0) → IsRead (Err e) xs (Each (λ x. Unit {0}) xs) → IsRead (Err e) y Q
always_all Keeper.Memory xs y Q f = tt
always_all (Keeper.Store Database) xs y Q f = tt
always_all (Keeper.Store NoRecord) xs y Q f = absurd (f (each_any xs))

-- the same, of elements that are such
pub first_err_of : {A : Type 0} (f : A → Row) (W P : A → Type 0) (rows : List Row) (r : Row) (e : KeepError) → r ≡ get_or rows 0 r → 0 < length rows
    → ((x : A) → W x → r ≡ f x → IsRead (Err e) x (P x)) → (o : Option A) → IfSome o W → rows ≡ at_most_one f o → IsRead (Err e) o (IfSome o P)
first_err_of f W P rows r e is lt read None fits are = absurd (let short = subst (λ rs. 0 < length rs) are lt in omega (arith, short))
first_err_of f W P rows r Keeper.Memory is lt read (Some x) fits are = tt
first_err_of f W P rows r (Keeper.Store Database) is lt read (Some x) fits are = tt
first_err_of f W P rows r (Keeper.Store NoRecord) is lt read (Some x) fits are = read x fits (is ∙ ap (λ rs. get_or rs 0 r) are)

pub first_of : {A : Type 0} (f : A → Row) (W : A → Type 0) (rows : List Row) (r : Row) (y : A) → r ≡ get_or rows 0 r → 0 < length rows
    → ((x : A) → W x → r ≡ f x → y ≡ x) → (o : Option A) → IfSome o W → rows ≡ at_most_one f o → Some y ≡ o
first_of f W rows r y is lt read None fits are = absurd (let short = subst (λ rs. 0 < length rs) are lt in omega (arith, short))
first_of f W rows r y is lt read (Some x) fits are = ap Some (read x fits (is ∙ ap (λ rs. get_or rs 0 r) are))

-- ---- what is found of one row after another

-- an error says the same of whatever was asked for
pub err_finds : {A B : Type 0} (e : KeepError) (P : A → Type 0) (R : B → Type 0) (Q : Type 0) → Finds (Err e) P Q → Finds (Err e) R Q
err_finds Keeper.Memory P R Q f = tt
err_finds (Keeper.Store Database) P R Q f = tt
err_finds (Keeper.Store NoRecord) P R Q f = f

-- it is passed on
pub finds_failed : {A B : Type 0} (r : Result B KeepError) (e : KeepError) (P : A → Type 0) (R : B → Type 0) (Q U : Type 0) → r ≡ Err e → Finds (Err e) P Q
    → (Q → U) → Finds r R U
finds_failed r e P R Q U is f bad = subst (λ x. Finds x R U) (sym is) (go e f) where
  go : (k : KeepError) → Finds (Err k) P Q → Finds (Err k) R U
  go Keeper.Memory f = tt
  go (Keeper.Store Database) f = tt
  go (Keeper.Store NoRecord) f = bad f

-- what can be kept, if only less can be
pub kept_less : {A : Type 0} (r : Result A KeepError) (x : A) (Q R : Type 0) → (R → Q) → IsRead r x Q → IsRead r x R
kept_less (Ok y) x Q R part f = f
kept_less (Err Keeper.Memory) x Q R part f = tt
kept_less (Err (Keeper.Store Database)) x Q R part f = tt
kept_less (Err (Keeper.Store NoRecord)) x Q R part f = λ whole. f (part whole)

-- one more is added
pub added_more : {A : Type 0} (f : ℕ → A → Row) (W : A → Type 0) (rows : List Row) (i : ℕ) (got more : List A) (r : Row) → i < length rows
    → r ≡ get_or rows i r → ((place : ℕ) (x : A) → W x → r ≡ f place x → more ≡ got ++ x ∷ []) → AreReadTo f W rows i got → AreReadTo f W rows (i + 1) more
added_more f W rows i got more r lt is added so from xs words are = let at = element_at f from xs rows i r are lt is in
    let next : i + 1 ≡ suc i = omega arith in
    added at.0 at.1 (each_at W xs i at.1 at.3 words) at.2 ∙ ap (λ l. l ++ at.1 ∷ []) (so from xs words are) ∙ sym (take_next xs i at.1 at.3)
    ∙ ap (λ n. take n xs) (sym next)
