-- A visitor that gets the elements of a list one by one, each read by a call of its own.
use Rattle.pawn_base.proofs.ListLemmas.{take_next, take_past}
use Rattle.pawn_book.proofs.Reading.{reads_none, reads_then}
use Rattle.pawn_book.proofs.VisitLemmas.{handed-snoc}
use Rattle.pawn_book.specs.Visits.{End}
use Rattle.pawn_table_keeper.specs.Common.{Host, Errs, Keeping, Reads, Front, Handed, IsShare, Visits, Whole, KeepError}
use Rattle.pawn_table_keeper.specs.Common.{Database, NoRecord, Flow, Go, Stop}
use Rattle.std.proofs.Common.{◌≡◌, ◌≤◌, ◌<◌, ◌++◌, ℕ, zero, suc, ◌+◌, List, length, length-append, [], ◌∷◌, take, drop}
use Rattle.std.proofs.Common.{slice_get, Some, None, Result, Ok, Err, refl, sym, ap, subst, ◌∙◌, arith, append-nil}
use Rattle.std.proofs.Common.{IfErr, take-append-drop}
use Rattle.pawn_book.specs.declared.fault.KeepError.TheVariants as Keeper

take_at_most : {A : Type 0} (n : ℕ) (xs : List A) → length (take n xs) ≤ length xs
take_at_most zero xs = omega arith
take_at_most (suc n) [] = omega arith
take_at_most (suc n) (x ∷ xs) = let rest = take_at_most n xs in omega (arith, rest)

module _ {K V T : Type 0} (k : Keeping K) (step : V → T → Flow → V → Type 0) (listed : Host → List T) where
  -- it got the first elements, and asks for more
  abbrev pub Walked : K → K → V → V → ℕ → Type 0
  Walked old now v w i = (given : List T) × Handed step v given Go w × Reads k old now (λ h. given ≡ take i (listed h)) × (length given ≡ i)

  pub begins : (s : K) (v : V) → Walked s s v v 0
  begins s v = ([], (refl, refl), reads_none k s (λ h. [] ≡ take 0 (listed h)) (λ h. refl), refl)

  -- all that it got
  abbrev pub Goes : K → K → V → V → End → Type 0
  Goes old new v w end = Visits step v w (λ given flow. Reads k old new (λ h. IsShare given flow end (listed h)))

  module _ (old now new : K) (v u w : V) (i : ℕ) (before : Walked old now v u i) where
    pub more : (x : T) → Reads k now new (λ h. Some x ≡ slice_get (listed h) i) → step u x Go w → Walked old new v w (i + 1)
    more x read here = let next : suc i ≡ i + 1 = omega arith in (
      before.0 ++ x ∷ [],
      handed-snoc step v u w before.0 x Go before.1 here,
      reads_then before.2 read (λ h are at. ap (λ l. l ++ x ∷ []) are ∙ sym (take_next (listed h) i x (sym at)) ∙ ap (λ n. take n (listed h)) next),
      length-append before.0 (x ∷ []) ∙ ap (λ n. n + 1) before.3,
    )

    pub stopped : (x : T) → Reads k now new (λ h. Some x ≡ slice_get (listed h) i) → step u x Stop w → Goes old new v w Whole
    stopped x read here = (
      before.0 ++ x ∷ [],
      Stop,
      handed-snoc step v u w before.0 x Stop before.1 here,
      reads_then before.2 read (λ h are at. (
        drop (suc i) (listed h),
        ap (λ l. (l ++ x ∷ []) ++ drop (suc i) (listed h)) are ∙ ap (λ l. l ++ drop (suc i) (listed h)) (sym (take_next (listed h) i x (sym at)))
            ∙ take-append-drop (suc i) (listed h),
        λ e. cc e,
      )),
    )

    pub ended : Reads k now new (λ h. None ≡ slice_get (listed h) i) → Goes old new v u Whole
    ended read = (before.0, Go, before.1, reads_then before.2 read (λ h are at. ([], append-nil before.0 ∙ are ∙ take_past (listed h) i (sym at), λ e f. refl)))

    pub failed : {P : Host → Type 0} → Reads k now new P → Goes old new v u Front
    failed read = (
      before.0,
      Go,
      before.1,
      reads_then before.2 read (λ h are p. (drop i (listed h), ap (λ l. l ++ drop i (listed h)) are ∙ take-append-drop i (listed h), λ e f. cc f)),
    )

  -- it got more than a host has that is sound in this way
  pub walked_past : {IsUnsound : Host → Type 0} {A : Type 0} (most : ℕ) → ((h : Host) → most < length (listed h) → IsUnsound h) → (old now : K) (v u : V)
      (i : ℕ) → (k.steady old → ⊥) → Walked old now v u i → most < i → (r : Result A KeepError) → r ≡ Err (Keeper.Store NoRecord) → Errs k old now IsUnsound r
  walked_past most unsound old now v u i may walked past r is = record {
    never = λ steady. absurd (may steady);
    no_record = λ bad honest h at.
        let given : length walked.0 ≤ length (listed h) =
        subst (λ l. length l ≤ length (listed h)) (sym (walked.2.states honest h at)) (take_at_most i (listed h)) in
        let all = walked.3 in
        unsound h (omega (arith, past, all, given));
  }

-- ---- errors

-- no error
pub errs_ok : {K A : Type 0} {IsUnsound : Host → Type 0} (k : Keeping K) (old new : K) (r : Result A KeepError) (x : A) → r ≡ Ok x → Errs k old new IsUnsound r
errs_ok k old new r x is = record {
  never = λ steady. subst (λ y. IfErr y (λ f. f ≡ Keeper.Memory)) (sym is) tt;
  no_record = λ bad. absurd (let e = sym is ∙ bad in cc);
}

-- a store that may fail, and returns no row
pub errs_database : {K A : Type 0} {IsUnsound : Host → Type 0} (k : Keeping K) (old new : K) (r : Result A KeepError) → (k.steady old → ⊥)
    → r ≡ Err (Keeper.Store Database) → Errs k old new IsUnsound r
errs_database k old new r may is = record {
  never = λ steady. absurd (may steady);
  no_record = λ bad. absurd (let e = sym is ∙ bad in cc);
}
