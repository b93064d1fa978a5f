-- Rows that were accepted to their end are those of the book.
use Rattle.pawn_csv.proofs.Basics.{◌≡◌, ◌∙◌, ◌+◌, ℕ, Bool, true, false, List, [], ◌∷◌, ◌++◌, length, map, Option, Some}
use Rattle.pawn_csv.proofs.Basics.{None, Result, Ok, Err, refl, sym, ap, subst, append_assoc, arith, cond, nat_lt}
use Rattle.pawn_csv.proofs.Basics.{nat_le, ◌==◌, ◌&&◌, ◌||◌, IfOk, IfSome, Each-push, and_parts, append-nil, nat_tests}
use Rattle.pawn_csv.proofs.Basics.{option_map}
use Rattle.pawn_csv.proofs.OrderLemmas.{Shows, booking_shown, entry_shown, extension_shown, guard_err, guard_ok}
use Rattle.pawn_csv.proofs.OrderLemmas.{ok_same, secret_shown}
use Rattle.pawn_csv.proofs.ReadLemmas.{EndsAt}
use Rattle.pawn_csv.specs.Common.{AreRecords, BookRows, Each, PledgeValue, Rates, default_config, State, flat_map}
use Rattle.pawn_csv.specs.Common.{most_pledges, most_terms, strip_bom}
use Rattle.pawn_csv.specs.Finishing.{IsFinishedAs, raw_of}
use Rattle.pawn_csv.specs.Layout.{raw_rows}
use Rattle.pawn_csv.specs.Order.{Begun, hand, is_whole, may_end, on_hand, on_second, accept, accept_booking, accept_entry}
use Rattle.pawn_csv.specs.Order.{accept_extension, accept_pledge, accept_secret, accept_terms, pledges_begun, put_hand}
use Rattle.pawn_csv.specs.Order.{raw_pledge, run, then_run}
use Rattle.pawn_csv.specs.Reading.{AreTaken, FitsVersion, IsReadAs, IsTextOf}
use Rattle.pawn_csv.specs.Rows.{FitsColumns, Knows, header, pledge_csv_rows, row_fields, book_csv_rows, terms_rows}
use Rattle.pawn_csv.specs.Rows.{version_rows}
use Rattle.pawn_csv.specs.Types.{Cause, PledgeColumns, RawPledge, Row, Version}

-- the rows that were accepted
abbrev pub shown : Option Begun → List Row
shown None = []
shown (Some b) = Row.Book b.version b.terms_due b.pledges_due ∷ (terms_rows 1 b.terms ++ flat_map raw_rows (pledges_begun b))

abbrev pub HasNone : RawPledge → Type 0
HasNone p = p.extensions ≡ []

-- a text of the first version has no extensions
abbrev pub IsPlain : Option Begun → Type 0
IsPlain None = Unit {0}
IsPlain (Some b) = b.version ≡ Version.One → Each HasNone (pledges_begun b)

abbrev pub Grows : Option Begun → Row → Begun → Type 0
Grows s r b = (shown (Some b) ≡ shown s ++ r ∷ []) × IsPlain (Some b)

none_counted : (xs : List RawPledge) → length xs ≡ 0 → xs ≡ []
none_counted [] h = refl
none_counted (x ∷ xs) h = absurd (omega (arith, h))

pub guard_then : {A : Type 0} (t : Bool) (x : Result A Cause) (y : A) (e : Cause) → cond t x (Err e) ≡ Ok y → (t ≡ true) × (x ≡ Ok y)
guard_then true x y e h = (refl, h)
guard_then false x y e h = cc

terms_rows-snoc : (n : ℕ) (ts : List Rates) (x : Rates) → terms_rows n (ts ++ x ∷ []) ≡ terms_rows n ts ++ Row.Terms (n + length ts) x ∷ []
terms_rows-snoc n [] x = ap (λ (m : ℕ). Row.Terms m x ∷ []) (omega arith)
terms_rows-snoc n (t ∷ ts) x =
    ap (λ (rs : List Row). Row.Terms n t ∷ rs) (terms_rows-snoc (n + 1) ts x ∙ ap (λ (m : ℕ). terms_rows (n + 1) ts ++ Row.Terms m x ∷ []) (omega arith))

flat_map-push : (ps : List RawPledge) (p : RawPledge) → flat_map raw_rows (ps ++ p ∷ []) ≡ flat_map raw_rows ps ++ raw_rows p
flat_map-push [] p = append-nil (raw_rows p)
flat_map-push (q ∷ ps) p = ap (λ (rs : List Row). raw_rows q ++ rs) (flat_map-push ps p) ∙ sym (append_assoc (raw_rows q) (flat_map raw_rows ps) (raw_rows p))

each_last : (ps : List RawPledge) (p q : RawPledge) → Each HasNone (ps ++ p ∷ []) → (HasNone p → HasNone q) → Each HasNone (ps ++ q ∷ [])
each_last [] p q h f = (f h.0, tt)
each_last (x ∷ ps) p q h f = (h.0, each_last ps p q h.1 f)

-- a row that the current pledge accepts
hand_shown : (first : Row) (ts : List Row) (ps : List RawPledge) (p q : RawPledge) (row : Row) → Shows p q row
    → first ∷ (ts ++ flat_map raw_rows (ps ++ q ∷ [])) ≡ (first ∷ (ts ++ flat_map raw_rows (ps ++ p ∷ []))) ++ row ∷ []
hand_shown first ts ps p q row shows = ap (λ (rs : List Row). first ∷ (ts ++ rs)) (flat_map-push ps q ∙ ap (λ (rs : List Row). flat_map raw_rows ps ++ rs) shows
    ∙ sym (append_assoc (flat_map raw_rows ps) (raw_rows p) (row ∷ [])) ∙ ap (λ (rs : List Row). rs ++ row ∷ []) (sym (flat_map-push ps p)))
    ∙ ap (λ (rs : List Row). first ∷ rs) (sym (append_assoc ts (flat_map raw_rows (ps ++ p ∷ [])) (row ∷ [])))

hand_grows : (b : Begun) (p q : RawPledge) (row : Row) → b.at_hand ≡ Some p → Shows p q row → (b.version ≡ Version.One → HasNone p → HasNone q)
    → IsPlain (Some b) → Grows (Some b) row (record b { at_hand = Some q })
hand_grows b p q row at shows none plain =
    let first = Row.Book b.version b.terms_due b.pledges_due in (
      hand_shown first (terms_rows 1 b.terms) b.pledges p q row shows
          ∙ ap (λ (o : Option RawPledge). (first ∷ (terms_rows 1 b.terms ++ flat_map raw_rows (b.pledges ++ hand o))) ++ row ∷ []) (sym at),
      λ one. each_last b.pledges p q (subst (λ (o : Option RawPledge). Each HasNone (b.pledges ++ hand o)) at (plain one)) (none one),
    )

on_hand_grows : (b c : Begun) (number : ℕ) (o : Option RawPledge) (f : RawPledge → Result RawPledge Cause) (row : Row) → b.at_hand ≡ o
    → on_hand b number o f ≡ Ok c
    → ((p q : RawPledge) → p.columns.number ≡ number → f p ≡ Ok q → Shows p q row × (b.version ≡ Version.One → HasNone p → HasNone q)) → IsPlain (Some b)
    → Grows (Some b) row c
on_hand_grows b c number None f row at h step plain = cc
on_hand_grows b c number (Some p) f row at h step plain =
    let guard = guard_then (p.columns.number == number) (put_hand b (f p)) c Cause.Order h in
    let test = guard.0 in
    let same : p.columns.number ≡ number = grind (arith, nat_tests, test) in
    elim (f p) as (λ v. f p ≡ v → put_hand b v ≡ Ok c → Grows (Some b) row c) [
      | Ok q ↦ λ is put. let s = step p q same is in subst (λ (d : Begun). Grows (Some b) row d) (ok_same _ c put) (hand_grows b p q row at s.0 s.1 plain)
      | Err e ↦ λ is put. cc
    ] refl guard.1

secret_keeps : (p q : RawPledge) (at : ℕ) (x : _) → accept_secret p at x ≡ Ok q → q.extensions ≡ p.extensions
secret_keeps p q at x h = let g = guard_ok _ (record p { secrets = p.secrets ++ x ∷ [] }) q Cause.Order (guard_err _ _ q Cause.TooMany h) in
    sym (ap (λ (r : RawPledge). r.extensions) g.1)

entry_keeps : (p q : RawPledge) (x : _) → accept_entry p x ≡ Ok q → q.extensions ≡ p.extensions
entry_keeps p q x h = let g = guard_ok _ (record p { entries = p.entries ++ x ∷ [] }) q Cause.Order (guard_err _ _ q Cause.TooMany h) in
    sym (ap (λ (r : RawPledge). r.extensions) g.1)

booking_keeps : (p q : RawPledge) (x : _) → accept_booking p x ≡ Ok q → q.extensions ≡ p.extensions
booking_keeps p q x h = let g = guard_ok _ (record p { booking = Some x }) q Cause.Order h in sym (ap (λ (r : RawPledge). r.extensions) g.1)

terms_grows : (b c : Begun) (v : ℕ) (x : Rates) → accept_terms b v x ≡ Ok c → IsPlain (Some b) → Grows (Some b) (Row.Terms v x) c
terms_grows b c v x h plain =
    let new : Begun = record b { terms = b.terms ++ x ∷ [] } in
    let guard = guard_ok ((v == length b.terms + 1) && nat_le v b.terms_due && (length (pledges_begun b) == 0)) new c Cause.Order h in
    let w = and_parts ((v == length b.terms + 1) && nat_le v b.terms_due) (length (pledges_begun b) == 0) guard.0 in
    let u = and_parts (v == length b.terms + 1) (nat_le v b.terms_due) w.0 in
    let first = u.0 in
    let last = w.1 in
    let at : 1 + length b.terms ≡ v = grind (arith, nat_tests, first) in
    let none : pledges_begun b ≡ [] = none_counted (pledges_begun b) (grind (arith, nat_tests, last)) in
    let head = Row.Book b.version b.terms_due b.pledges_due in
    let rows : shown (Some new) ≡ shown (Some b) ++ Row.Terms v x ∷ [] =
    ap (λ (ps : List RawPledge). head ∷ (terms_rows 1 (b.terms ++ x ∷ []) ++ flat_map raw_rows ps)) none ∙ ap (λ (rs : List Row). head ∷ rs)
    (append-nil (terms_rows 1 (b.terms ++ x ∷ [])) ∙ terms_rows-snoc 1 b.terms x ∙ ap (λ (m : ℕ). terms_rows 1 b.terms ++ Row.Terms m x ∷ []) at
    ∙ ap (λ (rs : List Row). rs ++ Row.Terms v x ∷ []) (sym (append-nil (terms_rows 1 b.terms))))
    ∙ ap (λ (ps : List RawPledge). (head ∷ (terms_rows 1 b.terms ++ flat_map raw_rows ps)) ++ Row.Terms v x ∷ []) (sym none) in
    subst (λ (d : Begun). Grows (Some b) (Row.Terms v x) d) guard.1 (rows, plain)

pledge_grows : (b c : Begun) (x : PledgeColumns) → accept_pledge b x ≡ Ok c → IsPlain (Some b) → Grows (Some b) (Row.Pledge x) c
pledge_grows b c x h plain =
    let new : Begun = record b { pledges = pledges_begun b; at_hand = Some (raw_pledge x) } in
    let guard = guard_ok _ new c Cause.Order h in
    let head = Row.Book b.version b.terms_due b.pledges_due in
    let rows : shown (Some new) ≡ shown (Some b) ++ Row.Pledge x ∷ [] =
    ap (λ (rs : List Row). head ∷ (terms_rows 1 b.terms ++ rs)) (flat_map-push (pledges_begun b) (raw_pledge x))
    ∙ ap (λ (rs : List Row). head ∷ rs) (sym (append_assoc (terms_rows 1 b.terms) (flat_map raw_rows (pledges_begun b)) (Row.Pledge x ∷ []))) in
    subst (λ (d : Begun). Grows (Some b) (Row.Pledge x) d) guard.1 (rows, λ one. Each-push HasNone (pledges_begun b) (raw_pledge x) (plain one) refl)

pub second_only : (v : Version) (x : Result Begun Cause) (c : Begun) → on_second v x ≡ Ok c → (v ≡ Version.Two) × (x ≡ Ok c)
second_only Version.One x c h = cc
second_only Version.Two x c h = (refl, h)

pub not_one : (v : Version) → v ≡ Version.Two → v ≡ Version.One → ⊥
not_one v a b = let e = sym a ∙ b in cc

-- a row that is accepted can be seen at the end
place_grows : (s : Option Begun) (r : Row) (c : Begun) → accept s r ≡ Ok c → IsPlain s → Grows s r c
place_grows None (Row.Book v t p) c h plain =
    subst (λ (d : Begun). Grows None (Row.Book v t p) d) (ok_same _ c (guard_err (nat_lt most_terms t || nat_lt most_pledges p) _ c Cause.TooMany h))
    (refl, λ one. tt)
place_grows None r c h plain = cc
place_grows (Some b) (Row.Book v t p) c h plain = let e = guard_err (nat_lt most_terms t || nat_lt most_pledges p) _ c Cause.TooMany h in cc
place_grows (Some b) (Row.Terms v x) c h plain = terms_grows b c v x h plain
place_grows (Some b) (Row.Pledge x) c h plain = pledge_grows b c x h plain
place_grows (Some b) (Row.Secret n at x) c h plain = on_hand_grows b c n b.at_hand (λ p. accept_secret p at x) (Row.Secret n at x) refl h
    (λ p q same is. (subst (λ (m : ℕ). Shows p q (Row.Secret m at x)) same (secret_shown p q at x is), λ one none. secret_keeps p q at x is ∙ none)) plain
place_grows (Some b) (Row.Entry n x) c h plain = on_hand_grows b c n b.at_hand (λ p. accept_entry p x) (Row.Entry n x) refl h
    (λ p q same is. (subst (λ (m : ℕ). Shows p q (Row.Entry m x)) same (entry_shown p q x is), λ one none. entry_keeps p q x is ∙ none)) plain
place_grows (Some b) (Row.Extension n at x) c h plain =
    let s = second_only b.version _ c h in
    on_hand_grows b c n b.at_hand (λ p. accept_extension p at x) (Row.Extension n at x) refl s.1 (λ p q same is.
    (subst (λ (m : ℕ). Shows p q (Row.Extension m at x)) same (extension_shown p q at x is), λ one none. absurd (not_one b.version s.0 one))) plain
place_grows (Some b) (Row.Booking n x) c h plain = on_hand_grows b c n b.at_hand (λ p. accept_booking p x) (Row.Booking n x) refl h
    (λ p q same is. (subst (λ (m : ℕ). Shows p q (Row.Booking m x)) same (booking_shown p q x is), λ one none. booking_keeps p q x is ∙ none)) plain

pub run_grows : (rows : List Row) (s t : Option Begun) → run s rows ≡ Ok t → IsPlain s → (shown t ≡ shown s ++ rows) × IsPlain t
run_grows [] s t h plain = subst (λ (v : Option Begun). (shown v ≡ shown s ++ []) × IsPlain v) (ok_same s t h) (sym (append-nil (shown s)), plain)
run_grows (r ∷ rows) s t h plain =
    elim (accept s r) as (λ v. accept s r ≡ v → then_run v (λ m. run m rows) ≡ Ok t → (shown t ≡ shown s ++ r ∷ rows) × IsPlain t) [
      | Ok b ↦ λ at rest.
          let g = place_grows s r b at plain in
          let on = run_grows rows (Some b) t rest g.1 in
          (on.0 ∙ ap (λ (xs : List Row). xs ++ rows) g.0 ∙ append_assoc (shown s) (r ∷ []) rows, on.1)
      | Err e ↦ λ at rest. cc
    ] refl h

pub flat_map-raw : (ps : List PledgeValue) → flat_map raw_rows (map raw_of ps) ≡ flat_map pledge_csv_rows ps
flat_map-raw [] = refl
flat_map-raw (p ∷ ps) = ap (λ (rs : List Row). pledge_csv_rows p ++ rs) (flat_map-raw ps)

pub length-raw : (ps : List PledgeValue) → length (map raw_of ps) ≡ length ps
length-raw [] = refl
length-raw (p ∷ ps) = omega (arith, length-raw ps)

none_known : (ps : List PledgeValue) → Each HasNone (map raw_of ps) → Each (λ p. p.extensions ≡ []) ps
none_known [] h = tt
none_known (p ∷ ps) h = (h.0, none_known ps h.1)

knows : (v : Version) (k : BookRows) → (v ≡ Version.One → Each (λ p. p.extensions ≡ []) k.pledges) → Knows v k
knows Version.One k h = h refl
knows Version.Two k h = tt

-- the whole state at the end
pub whole_counts : (b : Begun) → is_whole (Some b) ≡ true
    → (b.terms_due ≡ length b.terms) × (b.pledges_due ≡ length (pledges_begun b)) × (may_end b.at_hand ≡ true)
whole_counts b whole =
    let w = and_parts ((length b.terms == b.terms_due) && (length (pledges_begun b) == b.pledges_due)) (may_end b.at_hand) whole in
    let u = and_parts (length b.terms == b.terms_due) (length (pledges_begun b) == b.pledges_due) w.0 in
    let first = u.0 in
    let second = u.1 in
    (grind (arith, nat_tests, first), grind (arith, nat_tests, second), w.1)

-- what can be seen at the end
pub whole_rows : (b : Begun) (k : BookRows) → is_whole (Some b) ≡ true → b.terms ≡ k.terms → pledges_begun b ≡ map raw_of k.pledges
    → shown (Some b) ≡ book_csv_rows b.version k
whole_rows b k whole terms pledges =
    let (m, n, ended) = whole_counts b whole in
    let count = n ∙ ap (λ (ps : List RawPledge). length ps) pledges ∙ length-raw k.pledges in
    ap (λ (d : ℕ). Row.Book b.version d b.pledges_due ∷ (terms_rows 1 b.terms ++ flat_map raw_rows (pledges_begun b))) (m ∙ ap (λ (ts : List Rates). length ts)
    terms) ∙ ap (λ (d : ℕ). Row.Book b.version (length k.terms) d ∷ (terms_rows 1 b.terms ++ flat_map raw_rows (pledges_begun b))) count
    ∙ ap (λ (ts : List Rates). Row.Book b.version (length k.terms) (length k.pledges) ∷ (terms_rows 1 ts ++ flat_map raw_rows (pledges_begun b))) terms
    ∙ ap (λ (rs : List Row). Row.Book b.version (length k.terms) (length k.pledges) ∷ (terms_rows 1 k.terms ++ rs))
    (ap (λ (ps : List RawPledge). flat_map raw_rows ps) pledges ∙ flat_map-raw k.pledges)

some_same : (s : Option Begun) (b : Begun) → s ≡ None → s ≡ Some b → ⊥
some_same s b x y = let e = sym x ∙ y in cc

taken_is : (records : List (List (List ℕ))) (rows : List Row) (s : Option Begun) (k : BookRows) → AreTaken records rows s → IsFinishedAs s k
    → (v : Version) × (records ≡ version_rows v k) × FitsVersion v k
taken_is [] rows s k taken (b, is, whole, begun, replayable) = absurd (some_same s b taken.1 is)
taken_is (h ∷ rs) rows s k taken (b, is, whole, begun, replayable) =
    let grown = run_grows rows None (Some b) (taken.3 ∙ ap (λ (o : Option Begun). Ok o) is) tt in
    let whole' : is_whole (Some b) ≡ true = ap is_whole (sym is) ∙ whole in
    let same : rows ≡ book_csv_rows b.version k = sym grown.0 ∙ whole_rows b k whole' begun.0 begun.1.0 in (
      b.version,
      ap (λ (x : List (List ℕ)). x ∷ rs) taken.0 ∙ ap (λ (xs : List (List (List ℕ))). header ∷ xs) (taken.1 ∙ ap (λ (xs : List Row). map row_fields xs) same),
      (
        replayable,
        knows b.version k (λ one. none_known k.pledges (subst (λ (ps : List RawPledge). Each HasNone ps) begun.1.0 (grown.1 one))),
        subst (λ (xs : List Row). Each FitsColumns xs) same taken.2,
      ),
    )

-- a text that is read as a book is a text of that book
read_is : (text : List ℕ) (k : BookRows) → IsReadAs text k → IsTextOf text k
read_is text k (records, rows, s, are, taken, done) =
    let (v, same, held) = taken_is records rows s k taken done in
    (v, subst (λ (rs : List (List (List ℕ))). AreRecords default_config State.StartRecord text rs) same are, held)

pub text_is : {E : Type 0} (o : Option (List ℕ)) (s : Option Begun) (row : ℕ) (res : Result BookRows E)
    → IfSome (option_map strip_bom o) (λ text. EndsAt text s row) → IfOk res (IsFinishedAs s) → IfOk res (λ k. IfSome o (λ text. IsTextOf (strip_bom text) k))
text_is None s row (Ok k) ends done = tt
text_is (Some text) s row (Ok k) (records, rows, are, taken, place) done = read_is (strip_bom text) k (records, rows, s, are, taken, done)
text_is o s row (Err e) ends done = tt
