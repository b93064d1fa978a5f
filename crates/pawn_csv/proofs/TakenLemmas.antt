-- The rows of a book are accepted to their end.
use Rattle.pawn_base.proofs.TestLemmas.{equal}
use Rattle.pawn_csv.proofs.Basics.{◌≡◌, ◌∙◌, ◌+◌, ◌≤◌, ◌<◌, ℕ, Bool, true, false, List, [], ◌∷◌, ◌++◌, length, map}
use Rattle.pawn_csv.proofs.Basics.{Option, Some, None, Result, Ok, Err, refl, sym, ap, subst, append_assoc, arith, cond}
use Rattle.pawn_csv.proofs.Basics.{nat_lt, nat_le, ◌==◌, ◌&&◌, ◌||◌, not, and_from, append-nil, nat_tests}
use Rattle.pawn_csv.proofs.BookLemmas.{flat_map-raw, length-raw}
use Rattle.pawn_csv.specs.Common.{AreIssued, AreNumbered, AreNumberedFrom, AreReplayable, BookRows, Booking, Each}
use Rattle.pawn_csv.specs.Common.{Entry, Extension, IsNumber, IsReachable, IsUnder, Issued, PledgeValue, Rates}
use Rattle.pawn_csv.specs.Common.{flat_map, most_entries, most_extensions, most_pledges, most_secrets, most_terms}
use Rattle.pawn_csv.specs.Finishing.{IsBegunOf, raw_of}
use Rattle.pawn_csv.specs.Laws.{TextsAreReadAs}
use Rattle.pawn_csv.specs.Layout.{AreLaidFrom, IsLaidOut, IsWithin, LayoutsAreTaken, laid_rows, list_rows, raw_rows}
use Rattle.pawn_csv.specs.Order.{Begun, hand, has_secret, in_order, is_nil, is_whole, may_end, on_hand, accept}
use Rattle.pawn_csv.specs.Order.{accept_booking, accept_entry, accept_extension, accept_secret, put_hand, raw_pledge, run}
use Rattle.pawn_csv.specs.Order.{then_run, unless_full}
use Rattle.pawn_csv.specs.Rows.{Knows, booking_csv_rows, entry_rows, extension_rows, book_csv_rows, secret_rows}
use Rattle.pawn_csv.specs.Rows.{terms_rows, version_rows}
use Rattle.pawn_csv.specs.Types.{Cause, PledgeColumns, RawPledge, Row, Version}

-- ---- tests that are true, and rows one after another

ordered : {A : Type 0} (test : Bool) (x : A) → test ≡ true → in_order test x ≡ Ok x
ordered true x e = refl
ordered false x e = cc

not_full : {A : Type 0} (count most : ℕ) (answer : Result A Cause) → count < most → unless_full count most answer ≡ answer
not_full count most answer few =
    let test : nat_le most count ≡ false = grind (arith, nat_tests, few) in
    ap (λ (v : Bool). cond v (Err Cause.TooMany) answer) test

at_most : (n m : ℕ) → n ≤ m → nat_le n m ≡ true
at_most n m e = grind (arith, nat_tests, e)

step : (s : Option Begun) (r : Row) (rs : List Row) (b : Begun) → accept s r ≡ Ok b → run s (r ∷ rs) ≡ run (Some b) rs
step s r rs b e = ap (λ (o : Result Begun Cause). then_run o (λ t. run t rs)) e

pub run_on : (xs ys : List Row) (s t : Option Begun) → run s xs ≡ Ok t → run s (xs ++ ys) ≡ run t ys
run_on [] ys s t e = let same : s ≡ t = cc in ap (λ (o : Option Begun). run o ys) same
run_on (x ∷ xs) ys s t e =
    elim (accept s x) as (λ v. then_run v (λ m. run m xs) ≡ Ok t → then_run v (λ m. run m (xs ++ ys)) ≡ run t ys) [
      | Ok b ↦ λ on. run_on xs ys (Some b) t on
      | Err c ↦ λ on. cc
    ] e

-- ---- the parts of what was read

abbrev begun : Version → ℕ → ℕ → List Rates → List RawPledge → Option RawPledge → Begun
begun v m n terms pledges at_hand = record { version = v; terms_due = m; pledges_due = n; terms = terms; pledges = pledges; at_hand = at_hand }

abbrev raw : PledgeColumns → List Issued → List Entry → List Extension → Option Booking → RawPledge
raw c secrets entries extensions booking = record { columns = c; secrets = secrets; entries = entries; extensions = extensions; booking = booking }

-- ---- the rows of terms

pub longer : {A : Type 0} (xs : List A) (x : A) → length (xs ++ x ∷ []) ≡ length xs + 1
longer [] x = refl
longer (y ∷ xs) x = omega (arith, longer xs x)

run_terms : (v : Version) (m n k : ℕ) (done ts : List Rates) → k ≡ length done + 1 → length done + length ts ≤ m
    → run (Some (begun v m n done [] None)) (terms_rows k ts) ≡ Ok (Some (begun v m n (done ++ ts) [] None))
run_terms v m n k done [] at due =
    ap (λ (ts : List Rates). let r : Result (Option Begun) Cause = Ok (Some (begun v m n ts [] None)) in r) (sym (append-nil done))
run_terms v m n k done (t ∷ ts) at due =
    let test = and_from ((k == length done + 1) && nat_le k m) (length (let none : List RawPledge = [] in none) == 0)
    (and_from (k == length done + 1) (nat_le k m) (equal k (length done + 1) at) (at_most k m (omega (arith, at, due)))) refl in
    step (Some (begun v m n done [] None)) (Row.Terms k t) (terms_rows (k + 1) ts) (begun v m n (done ++ t ∷ []) [] None) (ordered _ (begun v m n
    (done ++ t ∷ []) [] None) test) ∙ run_terms v m n (k + 1) (done ++ t ∷ []) ts (omega (arith, at, longer done t)) (omega (arith, due, longer done t))
    ∙ ap (λ (x : List Rates). let r : Result (Option Begun) Cause = Ok (Some (begun v m n x [] None)) in r) (append_assoc done (t ∷ []) ts)

-- ---- the rows of a pledge

put : (b : Begun) (o : Option RawPledge) (number : ℕ) (p q : RawPledge) (f : RawPledge → Result RawPledge Cause) → o ≡ Some p → p.columns.number ≡ number
    → f p ≡ Ok q → on_hand b number o f ≡ Ok (record b { at_hand = Some q })
put b o number p q f at same e = ap (λ (x : Option RawPledge). on_hand b number x f) at
    ∙ ap (λ (t : Bool). cond t (put_hand b (f p)) (Err Cause.Order)) (equal p.columns.number number same) ∙ ap (put_hand b) e

run_secrets : (v : Version) (m n k : ℕ) (terms : List Rates) (pledges : List RawPledge) (c : PledgeColumns) (done is : List Issued)
    → k ≡ length done + 1 → length done + length is ≤ most_secrets → run (Some (begun v m n terms pledges (Some (raw c done [] [] None))))
    (secret_rows c.number k is) ≡ Ok (Some (begun v m n terms pledges (Some (raw c (done ++ is) [] [] None))))
run_secrets v m n k terms pledges c done [] at few =
    ap (λ (x : List Issued). let r : Result (Option Begun) Cause = Ok (Some (begun v m n terms pledges (Some (raw c x [] [] None)))) in r)
    (sym (append-nil done))
run_secrets v m n k terms pledges c done (i ∷ is) at few =
    let old = raw c done [] [] None in
    let new = raw c (done ++ i ∷ []) [] [] None in
    let b = begun v m n terms pledges (Some old) in
    let test = and_from ((k == length done + 1) && true && true) true
    (and_from ((k == length done + 1) && true) true (and_from (k == length done + 1) true (equal k (length done + 1) at) refl) refl) refl in
    let taken : accept_secret old k i ≡ Ok new = not_full (length done) most_secrets _ (omega (arith, few)) ∙ ordered _ new test in
    step (Some b) (Row.Secret c.number k i) (secret_rows c.number (k + 1) is) (record b { at_hand = Some new })
    (put b b.at_hand c.number old new (λ p. accept_secret p k i) refl refl taken) ∙ run_secrets v m n (k + 1) terms pledges c (done ++ i ∷ []) is
    (omega (arith, at, longer done i)) (omega (arith, few, longer done i)) ∙ ap (λ (x : List Issued). let r : Result (Option Begun) Cause =
    Ok (Some (begun v m n terms pledges (Some (raw c x [] [] None)))) in r) (append_assoc done (i ∷ []) is)

run_entries : (v : Version) (m n k : ℕ) (terms : List Rates) (pledges : List RawPledge) (c : PledgeColumns) (i : Issued) (is : List Issued)
    (done es : List Entry) → AreNumbered k es → k ≡ length done + 1 → length done + length es ≤ most_entries → run (Some (begun v m n terms pledges
    (Some (raw c (i ∷ is) done [] None)))) (entry_rows c.number es) ≡ Ok (Some (begun v m n terms pledges (Some (raw c (i ∷ is) (done ++ es) [] None))))
run_entries v m n k terms pledges c i is done [] numbered at few =
    ap (λ (x : List Entry). let r : Result (Option Begun) Cause = Ok (Some (begun v m n terms pledges (Some (raw c (i ∷ is) x [] None)))) in r)
    (sym (append-nil done))
run_entries v m n k terms pledges c i is done (e ∷ es) numbered at few =
    let old = raw c (i ∷ is) done [] None in
    let new = raw c (i ∷ is) (done ++ e ∷ []) [] None in
    let b = begun v m n terms pledges (Some old) in
    let test = and_from ((e.seq == length done + 1) && true && true) true (and_from ((e.seq == length done + 1) && true) true
    (and_from (e.seq == length done + 1) true (equal e.seq (length done + 1) (numbered.0 ∙ at)) refl) refl) refl in
    let taken : accept_entry old e ≡ Ok new = not_full (length done) most_entries _ (omega (arith, few)) ∙ ordered _ new test in
    step (Some b) (Row.Entry c.number e) (entry_rows c.number es) (record b { at_hand = Some new })
    (put b b.at_hand c.number old new (λ p. accept_entry p e) refl refl taken) ∙ run_entries v m n (k + 1) terms pledges c i is (done ++ e ∷ []) es numbered.1
    (omega (arith, at, longer done e)) (omega (arith, few, longer done e)) ∙ ap (λ (x : List Entry). let r : Result (Option Begun) Cause =
    Ok (Some (begun v m n terms pledges (Some (raw c (i ∷ is) x [] None)))) in r) (append_assoc done (e ∷ []) es)

run_extensions : (m n k : ℕ) (terms : List Rates) (pledges : List RawPledge) (c : PledgeColumns) (i : Issued) (is : List Issued) (entries : List Entry) (done
    xs : List Extension) → k ≡ length done + 1 → length done + length xs ≤ most_extensions → run (Some (begun Version.Two m n terms pledges (Some (raw c (i ∷
    is) entries done None)))) (extension_rows c.number k xs) ≡ Ok (Some (begun Version.Two m n terms pledges (Some (raw c (i ∷ is) entries (done ++ xs) None))))
run_extensions m n k terms pledges c i is entries done [] at few =
    ap (λ (x : List Extension). let r : Result (Option Begun) Cause = Ok (Some (begun Version.Two m n terms pledges (Some (raw c (i ∷ is) entries x None)))) in
    r) (sym (append-nil done))
run_extensions m n k terms pledges c i is entries done (x ∷ xs) at few =
    let old = raw c (i ∷ is) entries done None in
    let new = raw c (i ∷ is) entries (done ++ x ∷ []) None in
    let b = begun Version.Two m n terms pledges (Some old) in
    let test = and_from ((k == length done + 1) && true) true (and_from (k == length done + 1) true (equal k (length done + 1) at) refl) refl in
    let taken : accept_extension old k x ≡ Ok new = not_full (length done) most_extensions _ (omega (arith, few)) ∙ ordered _ new test in
    step (Some b) (Row.Extension c.number k x) (extension_rows c.number (k + 1) xs) (record b { at_hand = Some new })
    (put b b.at_hand c.number old new (λ p. accept_extension p k x) refl refl taken) ∙ run_extensions m n (k + 1) terms pledges c i is entries (done ++ x ∷ [])
    xs (omega (arith, at, longer done x)) (omega (arith, few, longer done x)) ∙ ap (λ (y : List Extension). let r : Result (Option Begun) Cause =
    Ok (Some (begun Version.Two m n terms pledges (Some (raw c (i ∷ is) entries y None)))) in r) (append_assoc done (x ∷ []) xs)

-- extensions, if the version has them
run_known : (v : Version) (m n : ℕ) (terms : List Rates) (pledges : List RawPledge) (c : PledgeColumns) (i : Issued) (is : List Issued) (entries : List Entry)
    (xs : List Extension) → (v ≡ Version.One → xs ≡ []) → length xs ≤ most_extensions → run (Some (begun v m n terms pledges
    (Some (raw c (i ∷ is) entries [] None)))) (extension_rows c.number 1 xs) ≡ Ok (Some (begun v m n terms pledges (Some (raw c (i ∷ is) entries xs None))))
run_known Version.One m n terms pledges c i is entries xs known few = rw (known refl) refl
run_known Version.Two m n terms pledges c i is entries xs known few = run_extensions m n 1 terms pledges c i is entries [] xs refl (omega (arith, few))

run_booking : (v : Version) (m n : ℕ) (terms : List Rates) (pledges : List RawPledge) (c : PledgeColumns) (i : Issued) (is : List Issued) (entries : List Entry)
    (xs : List Extension) (o : Option Booking) → run (Some (begun v m n terms pledges (Some (raw c (i ∷ is) entries xs None))))
    (booking_csv_rows c.number o) ≡ Ok (Some (begun v m n terms pledges (Some (raw c (i ∷ is) entries xs o))))
run_booking v m n terms pledges c i is entries xs None = refl
run_booking v m n terms pledges c i is entries xs (Some x) =
    let old = raw c (i ∷ is) entries xs None in
    let new = raw c (i ∷ is) entries xs (Some x) in
    let b = begun v m n terms pledges (Some old) in
    step (Some b) (Row.Booking c.number x) [] (record b { at_hand = Some new }) (put b b.at_hand c.number old new (λ p. accept_booking p x) refl refl refl)

-- the rows of a pledge's lists
run_lists : (v : Version) (m n : ℕ) (terms : List Rates) (pledges : List RawPledge) (c : PledgeColumns) (i : Issued) (is : List Issued) (entries : List Entry)
    (xs : List Extension) (o : Option Booking) → length (i ∷ is) ≤ most_secrets → AreNumbered 1 entries → length entries ≤ most_entries
    → (v ≡ Version.One → xs ≡ []) → length xs ≤ most_extensions → run (Some (begun v m n terms pledges (Some (raw c [] [] [] None))))
    (secret_rows c.number 1 (i ∷ is) ++ (entry_rows c.number entries ++ (extension_rows c.number 1 xs ++ booking_csv_rows c.number o))) ≡ Ok
    (Some (begun v m n terms pledges (Some (raw c (i ∷ is) entries xs o))))
run_lists v m n terms pledges c i is entries xs o secrets numbered few known extensions =
    let at = λ (p : RawPledge). Some (begun v m n terms pledges (Some p)) in
    let booking = booking_csv_rows c.number o in
    let rest = extension_rows c.number 1 xs ++ booking in
    run_on (secret_rows c.number 1 (i ∷ is)) (entry_rows c.number entries ++ rest) (at (raw c [] [] [] None)) (at (raw c (i ∷ is) [] [] None))
    (run_secrets v m n 1 terms pledges c [] (i ∷ is) refl (omega (arith, secrets))) ∙ run_on (entry_rows c.number entries) rest (at (raw c (i ∷ is) [] [] None))
    (at (raw c (i ∷ is) entries [] None)) (run_entries v m n 1 terms pledges c i is [] entries numbered refl (omega (arith, few)))
    ∙ run_on (extension_rows c.number 1 xs) booking (at (raw c (i ∷ is) entries [] None)) (at (raw c (i ∷ is) entries xs None))
    (run_known v m n terms pledges c i is entries xs known extensions) ∙ run_booking v m n terms pledges c i is entries xs o

abbrev has_first : List Issued → Type 0
has_first [] = ⊥
has_first (i ∷ is) = Unit {0}

first_there : (taken credit : ℕ) (is : List Issued) → AreIssued taken credit is → has_first is
first_there taken credit [] h = absurd h
first_there taken credit (i ∷ is) h = tt

-- the rows of the next pledge
run_pledge : (v : Version) (m n : ℕ) (terms : List Rates) (done : List RawPledge) (at_hand : Option RawPledge) (p : RawPledge) → length terms ≡ m
    → may_end at_hand ≡ true → p.columns.number ≡ length (done ++ hand at_hand) + 1 → p.columns.number ≤ n → has_secret p ≡ true → IsWithin v p
    → run (Some (begun v m n terms done at_hand)) (raw_rows p) ≡ Ok (Some (begun v m n terms (done ++ hand at_hand) (Some p)))
run_pledge v m n terms done at_hand p all over at due first within = from p.secrets refl first where
  c : PledgeColumns
  c = p.columns

  begins : accept (Some (begun v m n terms done at_hand)) (Row.Pledge c) ≡ Ok (begun v m n terms (done ++ hand at_hand) (Some (raw_pledge c)))
  begins = ordered _ (begun v m n terms (done ++ hand at_hand) (Some (raw_pledge c)))
      (and_from ((length terms == m) && may_end at_hand && (c.number == length (done ++ hand at_hand) + 1)) (nat_le c.number n)
      (and_from ((length terms == m) && may_end at_hand) (c.number == length (done ++ hand at_hand) + 1) (and_from (length terms == m) (may_end at_hand)
      (equal (length terms) m all) over) (equal c.number (length (done ++ hand at_hand) + 1) at)) (at_most c.number n due))

  from : (is : List Issued) → p.secrets ≡ is → not (is_nil is) ≡ true
      → run (Some (begun v m n terms done at_hand)) (raw_rows p) ≡ Ok (Some (begun v m n terms (done ++ hand at_hand) (Some p)))
  from [] e none = cc
  from (i ∷ is) e first =
      let few : length (i ∷ is) ≤ most_secrets = subst (λ (x : List Issued). length x ≤ most_secrets) e within.secrets in
      let lists =
      run_lists v m n terms (done ++ hand at_hand) c i is p.entries p.extensions p.booking few within.numbered within.entries within.known within.extensions in
      step (Some (begun v m n terms done at_hand)) (Row.Pledge c) _ (begun v m n terms (done ++ hand at_hand) (Some (raw_pledge c))) begins
      ∙ subst (λ (x : List Issued). run (Some (begun v m n terms (done ++ hand at_hand) (Some (raw_pledge c)))) (list_rows c.number x p.entries p.extensions
      p.booking) ≡ Ok (Some (begun v m n terms (done ++ hand at_hand) (Some (raw c x p.entries p.extensions p.booking))))) (sym e) lists

-- ---- the rows of a book

-- pledges were accepted after others: they follow them, and the last one is complete
abbrev Follows : Version → ℕ → ℕ → List Rates → List RawPledge → Option RawPledge → List RawPledge → Type 0
Follows v m n terms done at_hand ps = (now : List RawPledge) × (last : Option RawPledge) × (run (Some (begun v m n terms done at_hand))
    (flat_map raw_rows ps) ≡ Ok (Some (begun v m n terms now last))) × (now ++ hand last ≡ (done ++ hand at_hand) ++ ps) × (may_end last ≡ true)

follows_first : (v : Version) (m n : ℕ) (terms : List Rates) (done : List RawPledge) (at_hand : Option RawPledge) (p : RawPledge) (ps : List RawPledge)
    → run (Some (begun v m n terms done at_hand)) (raw_rows p) ≡ Ok (Some (begun v m n terms (done ++ hand at_hand) (Some p)))
    → Follows v m n terms (done ++ hand at_hand) (Some p) ps → Follows v m n terms done at_hand (p ∷ ps)
follows_first v m n terms done at_hand p ps here (now, last, ran, same, ends) = (
  now,
  last,
  run_on (raw_rows p) (flat_map raw_rows ps) (Some (begun v m n terms done at_hand)) (Some (begun v m n terms (done ++ hand at_hand) (Some p))) here ∙ ran,
  same ∙ append_assoc (done ++ hand at_hand) (p ∷ []) ps,
  ends,
)

run_pledges : (v : Version) (m n k : ℕ) (terms : List Rates) (done : List RawPledge) (at_hand : Option RawPledge) (ps : List RawPledge)
    → length terms ≡ m → may_end at_hand ≡ true → k ≡ length (done ++ hand at_hand) + 1 → length (done ++ hand at_hand) + length ps ≤ n
    → AreLaidFrom k v ps → Follows v m n terms done at_hand ps
run_pledges v m n k terms done at_hand [] all over at due laid = (done, at_hand, refl, sym (append-nil (done ++ hand at_hand)), over)
run_pledges v m n k terms done at_hand (p ∷ ps) all over at due laid =
    let here = run_pledge v m n terms done at_hand p all over (laid.0 ∙ at) (omega (arith, laid.0, at, due)) laid.1 laid.2 in
    let more = longer (done ++ hand at_hand) p in
    follows_first v m n terms done at_hand p ps here
    (run_pledges v m n (k + 1) terms (done ++ hand at_hand) (Some p) ps all laid.1 (omega (arith, at, more)) (omega (arith, due, more)) laid.3)

are_raw : (ps : List PledgeValue) → Each IsReachable ps → Each (λ p. IsNumber p.agreement.number) ps
are_raw [] h = tt
are_raw (p ∷ ps) h = (h.0.within.number, are_raw ps h.1)

begins : (v : Version) (m n : ℕ) → m ≤ most_terms → n ≤ most_pledges → accept None (Row.Book v m n) ≡ Ok (begun v m n [] [] None)
begins v m n few_terms few_pledges =
    let few : (nat_lt most_terms m || nat_lt most_pledges n) ≡ false = grind (arith, nat_tests, few_terms, few_pledges) in
    ap (λ (t : Bool). let r : Result Begun Cause = cond t (Err Cause.TooMany) (Ok (begun v m n [] [] None)) in r) few

-- rows in the layout of a book are accepted to their end
pub layouts_are_taken : LayoutsAreTaken
layouts_are_taken v terms pledges laid =
    let m = length terms in
    let n = length pledges in
    let (now, last, ran, same, ends) = run_pledges v m n 1 terms [] None pledges refl refl refl (omega arith) laid.laid in
    let count : length (now ++ hand last) ≡ n = ap length same in (
      begun v m n terms now last,
      step None (Row.Book v m n) (terms_rows 1 terms ++ flat_map raw_rows pledges) (begun v m n [] [] None) (begins v m n laid.few_terms laid.few_pledges)
          ∙ run_on (terms_rows 1 terms) (flat_map raw_rows pledges) (Some (begun v m n [] [] None)) (Some (begun v m n terms [] None))
          (run_terms v m n 1 [] terms refl (omega arith)) ∙ ran,
      and_from ((m == m) && (length (now ++ hand last) == n)) (may_end last)
          (and_from (m == m) (length (now ++ hand last) == n) (equal m m refl) (equal (length (now ++ hand last)) n count)) ends,
      refl,
      same,
    )

-- ---- the rows of a replayable book

begins_with : (is : List Issued) → has_first is → not (is_nil is) ≡ true
begins_with [] h = absurd h
begins_with (i ∷ is) h = refl

laid_from : (v : Version) (k : ℕ) (ps : List PledgeValue) → AreNumberedFrom k ps → Each IsReachable ps → (v ≡ Version.One → Each (λ p. p.extensions ≡ []) ps)
    → AreLaidFrom k v (map raw_of ps)
laid_from v k [] numbered stand known = tt
laid_from v k (p ∷ ps) numbered stand known = (
  numbered.0,
  begins_with p.secrets (first_there _ _ p.secrets stand.0.replayable.issued.sorts),
  record {
    secrets = stand.0.within.secrets;
    entries = stand.0.within.entries;
    extensions = stand.0.within.extensions;
    numbered = stand.0.replayable.entered.numbered;
    known = λ one. (known one).0;
  },
  laid_from v (k + 1) ps numbered.1 stand.1 (λ one. (known one).1),
)

plain : (v : Version) (k : BookRows) → Knows v k → v ≡ Version.One → Each (λ p. p.extensions ≡ []) k.pledges
plain Version.One k h e = h
plain Version.Two k h e = cc

laid_book : (v : Version) (k : BookRows) → AreReplayable k.terms k.pledges → Knows v k → IsLaidOut v k.terms (map raw_of k.pledges)
laid_book v k replayable knows = record {
  few_terms = replayable.few_terms;
  few_pledges = (let count = length-raw k.pledges in let few = replayable.few_pledges in omega (arith, count, few));
  laid = laid_from v 1 k.pledges replayable.numbered replayable.reachable (plain v k knows);
}

-- its rows have the layout
pub book_rows_are : (v : Version) (k : BookRows) → laid_rows v k.terms (map raw_of k.pledges) ≡ book_csv_rows v k
book_rows_are v k = λ i. Row.Book v (length k.terms) (length-raw k.pledges i) ∷ (terms_rows 1 k.terms ++ flat_map-raw k.pledges i)

-- the rows of a book were accepted, and the book is made of them
abbrev pub Makes : Version → BookRows → Type 0
Makes v k = (b : Begun) × (run None (book_csv_rows v k) ≡ Ok (Some b)) × (is_whole (Some b) ≡ true) × IsBegunOf b k

pub run_book : (v : Version) (k : BookRows) → AreReplayable k.terms k.pledges → Knows v k → Makes v k
run_book v k replayable knows =
    let (b, ran, whole, terms, pledges) = layouts_are_taken v k.terms (map raw_of k.pledges) (laid_book v k replayable knows) in (
      b,
      ap (run None) (sym (book_rows_are v k)) ∙ ran,
      whole,
      (terms, (pledges, subst (λ (ts : List Rates). Each (IsUnder ts) k.pledges) (sym terms) replayable.under, are_raw k.pledges replayable.reachable)),
    )

-- the records of a text with a book are accepted to their end, and that book is made of them
pub texts_are_read_as : TextsAreReadAs
texts_are_read_as text k (v, are, held) =
    let (b, ran, whole, is) = run_book v k held.0 held.1 in
    (version_rows v k, book_csv_rows v k, Some b, are, (refl, refl, held.2, ran), (b, refl, whole, is, held.0))
