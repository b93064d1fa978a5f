-- Only rows in the layout of a book are accepted, and why other rows are refused.
use Rattle.pawn_csv.proofs.Basics.{◌≡◌, ◌∙◌, ◌⊎◌, inl, inr, ◌+◌, ◌≤◌, ◌<◌, ℕ, Bool, true, false, List, [], ◌∷◌, ◌++◌}
use Rattle.pawn_csv.proofs.Basics.{length, map, Option, Some, None, Result, Ok, Err, refl, sym, ap, subst, arith, cond}
use Rattle.pawn_csv.proofs.Basics.{nat_lt, nat_le, ◌==◌, ◌&&◌, ◌||◌, and_parts, nat_tests}
use Rattle.pawn_csv.proofs.BookLemmas.{guard_then, run_grows, second_only, whole_counts}
use Rattle.pawn_csv.proofs.OrderLemmas.{guard_err, guard_ok, ok_same}
use Rattle.pawn_csv.proofs.TakenLemmas.{book_rows_are, layouts_are_taken, longer, run_book}
use Rattle.pawn_csv.specs.Common.{AreNumbered, BookRows, Booking, Each, Entry, Extension, Issued, PledgeValue, flat_map}
use Rattle.pawn_csv.specs.Common.{most_entries, most_extensions, most_pledges, most_secrets, most_terms}
use Rattle.pawn_csv.specs.Finishing.{IsBegunOf, raw_of}
use Rattle.pawn_csv.specs.Layout.{AreLaidFrom, IsWithin, NotReplayableIsOfNoBook, RefusedAreNoFront, TakenAreLaidOut}
use Rattle.pawn_csv.specs.Layout.{TooManyIsAboveALimit, laid_rows, raw_rows}
use Rattle.pawn_csv.specs.Order.{Begun, hand, has_secret, in_order, is_nil, is_none, is_whole, may_end, on_hand}
use Rattle.pawn_csv.specs.Order.{on_second, accept, accept_book, accept_booking, accept_entry, accept_extension, accept_first}
use Rattle.pawn_csv.specs.Order.{accept_pledge, accept_secret, pledges_begun, put_hand, raw_pledge, run, then_run}
use Rattle.pawn_csv.specs.Order.{unless_full}
use Rattle.pawn_csv.specs.Rows.{Knows, terms_rows}
use Rattle.pawn_csv.specs.Types.{Cause, PledgeColumns, RawPledge, Row, Version}

-- ---- what is true of a book of which some rows were accepted

-- the current pledge is the next one, and its lists are within the limits
abbrev IsLaidHand : Version → List RawPledge → Option RawPledge → Type 0
IsLaidHand v pledges None = Unit {0}
IsLaidHand v pledges (Some p) = (p.columns.number ≡ length pledges + 1) × IsWithin v p

record IsLaidSoFar (b : Begun) : Type 0 where
  pub few_terms : b.terms_due ≤ most_terms
  pub few_pledges : b.pledges_due ≤ most_pledges
  pub pledges : AreLaidFrom 1 b.version b.pledges
  pub at_hand : IsLaidHand b.version b.pledges b.at_hand

laid_push : (v : Version) (k : ℕ) (ps : List RawPledge) (p : RawPledge) → AreLaidFrom k v ps → p.columns.number ≡ length ps + k → has_secret p ≡ true
    → IsWithin v p → AreLaidFrom k v (ps ++ p ∷ [])
laid_push v k [] p laid at first within = (omega (arith, at), first, within, tt)
laid_push v k (q ∷ ps) p laid at first within = (laid.0, laid.1, laid.2, laid_push v (k + 1) ps p laid.3 (omega (arith, at)) first within)

-- the pledges so far, once the current one is complete
laid_all : (v : Version) (ps : List RawPledge) (o : Option RawPledge) → AreLaidFrom 1 v ps → IsLaidHand v ps o → may_end o ≡ true
    → AreLaidFrom 1 v (ps ++ hand o)
laid_all v ps None laid none over = subst (AreLaidFrom 1 v) (sym (none_more ps)) laid where
  none_more : (xs : List RawPledge) → xs ++ [] ≡ xs
  none_more [] = refl
  none_more (x ∷ xs) = ap (λ (ys : List RawPledge). x ∷ ys) (none_more xs)
laid_all v ps (Some p) laid at over = laid_push v 1 ps p laid at.0 over at.1

numbered_push : (k : ℕ) (es : List Entry) (e : Entry) → AreNumbered k es → e.seq ≡ length es + k → AreNumbered k (es ++ e ∷ [])
numbered_push k [] e numbered at = (omega (arith, at), tt)
numbered_push k (x ∷ es) e numbered at = (numbered.0, numbered_push (k + 1) es e numbered.1 (omega (arith, at)))

-- one more in a list that was not full
not_full : {A : Type 0} (count most : ℕ) (answer : Result A Cause) (y : A) → unless_full count most answer ≡ Ok y → count < most
not_full count most answer y h = go (nat_le most count) refl h where
  go : (full : Bool) → nat_le most count ≡ full → cond full (Err Cause.TooMany) answer ≡ Ok y → count < most
  go true is h = cc
  go false is h = grind (arith, nat_tests, is)

-- ---- what each row keeps

secret_within : (v : Version) (p q : RawPledge) (at : ℕ) (x : Issued) → accept_secret p at x ≡ Ok q → IsWithin v p → (q.columns ≡ p.columns) × IsWithin v q
secret_within v p q at x h within =
    let few = not_full (length p.secrets) most_secrets _ q h in
    let new : RawPledge = record p { secrets = p.secrets ++ x ∷ [] } in
    let g = guard_ok _ new q Cause.Order (guard_err (nat_le most_secrets (length p.secrets)) _ q Cause.TooMany h) in
    subst (λ (r : RawPledge). (r.columns ≡ p.columns) × IsWithin v r) g.1 (
      refl,
      record {
        secrets = (let more = longer p.secrets x in omega (arith, more, few));
        entries = within.entries;
        extensions = within.extensions;
        numbered = within.numbered;
        known = within.known;
      },
    )

entry_within : (v : Version) (p q : RawPledge) (x : Entry) → accept_entry p x ≡ Ok q → IsWithin v p → (q.columns ≡ p.columns) × IsWithin v q
entry_within v p q x h within =
    let few = not_full (length p.entries) most_entries _ q h in
    let new : RawPledge = record p { entries = p.entries ++ x ∷ [] } in
    let g = guard_ok ((x.seq == length p.entries + 1) && has_secret p && is_nil p.extensions && is_none p.booking) new q Cause.Order
    (guard_err (nat_le most_entries (length p.entries)) _ q Cause.TooMany h) in
    let w = and_parts ((x.seq == length p.entries + 1) && has_secret p && is_nil p.extensions) (is_none p.booking) g.0 in
    let u = and_parts ((x.seq == length p.entries + 1) && has_secret p) (is_nil p.extensions) w.0 in
    let first = (and_parts (x.seq == length p.entries + 1) (has_secret p) u.0).0 in
    let next : x.seq ≡ length p.entries + 1 = grind (arith, nat_tests, first) in
    subst (λ (r : RawPledge). (r.columns ≡ p.columns) × IsWithin v r) g.1 (
      refl,
      record {
        secrets = within.secrets;
        entries = (let more = longer p.entries x in omega (arith, more, few));
        extensions = within.extensions;
        numbered = numbered_push 1 p.entries x within.numbered next;
        known = within.known;
      },
    )

extension_within : (p q : RawPledge) (at : ℕ) (x : Extension) → accept_extension p at x ≡ Ok q → IsWithin Version.Two p
    → (q.columns ≡ p.columns) × IsWithin Version.Two q
extension_within p q at x h within =
    let few = not_full (length p.extensions) most_extensions _ q h in
    let new : RawPledge = record p { extensions = p.extensions ++ x ∷ [] } in
    let g = guard_ok _ new q Cause.Order (guard_err (nat_le most_extensions (length p.extensions)) _ q Cause.TooMany h) in
    subst (λ (r : RawPledge). (r.columns ≡ p.columns) × IsWithin Version.Two r) g.1 (
      refl,
      record {
        secrets = within.secrets;
        entries = within.entries;
        extensions = (let more = longer p.extensions x in omega (arith, more, few));
        numbered = within.numbered;
        known = λ one. cc;
      },
    )

booking_within : (v : Version) (p q : RawPledge) (x : Booking) → accept_booking p x ≡ Ok q → IsWithin v p → (q.columns ≡ p.columns) × IsWithin v q
booking_within v p q x h within =
    let g = guard_ok _ (record p { booking = Some x }) q Cause.Order h in
    subst (λ (r : RawPledge). (r.columns ≡ p.columns) × IsWithin v r) g.1
    (refl, record { secrets = within.secrets; entries = within.entries; extensions = within.extensions; numbered = within.numbered; known = within.known })

-- a row of the current pledge
hand_kept : (b c : Begun) (number : ℕ) (o : Option RawPledge) (f : RawPledge → Result RawPledge Cause) → b.at_hand ≡ o → on_hand b number o f ≡ Ok c
    → ((p q : RawPledge) → f p ≡ Ok q → IsWithin b.version p → (q.columns ≡ p.columns) × IsWithin b.version q) → IsLaidSoFar b → IsLaidSoFar c
hand_kept b c number None f at h keeps laid = cc
hand_kept b c number (Some p) f at h keeps laid =
    let guard = guard_then (p.columns.number == number) (put_hand b (f p)) c Cause.Order h in
    let here : IsLaidHand b.version b.pledges (Some p) = subst (IsLaidHand b.version b.pledges) at laid.at_hand in
    elim (f p) as (λ v. f p ≡ v → put_hand b v ≡ Ok c → IsLaidSoFar c) [
      | Ok q ↦ λ is put.
          let kept = keeps p q is here.1 in
          subst IsLaidSoFar (ok_same (record b { at_hand = Some q }) c put) (record {
            few_terms = laid.few_terms;
            few_pledges = laid.few_pledges;
            pledges = laid.pledges;
            at_hand = (ap (λ (x : PledgeColumns). x.number) kept.0 ∙ here.0, kept.1);
          })
      | Err e ↦ λ is put. cc
    ] refl guard.1

pledge_kept : (b c : Begun) (x : PledgeColumns) → accept_pledge b x ≡ Ok c → IsLaidSoFar b → IsLaidSoFar c
pledge_kept b c x h laid =
    let new : Begun = record b { pledges = pledges_begun b; at_hand = Some (raw_pledge x) } in
    let g = guard_ok
    ((length b.terms == b.terms_due) && may_end b.at_hand && (x.number == length (pledges_begun b) + 1) && nat_le x.number b.pledges_due) new c Cause.Order h in
    let w =
    and_parts ((length b.terms == b.terms_due) && may_end b.at_hand && (x.number == length (pledges_begun b) + 1)) (nat_le x.number b.pledges_due) g.0 in
    let u = and_parts ((length b.terms == b.terms_due) && may_end b.at_hand) (x.number == length (pledges_begun b) + 1) w.0 in
    let over = (and_parts (length b.terms == b.terms_due) (may_end b.at_hand) u.0).1 in
    let next = u.1 in
    subst IsLaidSoFar g.1 (record {
      few_terms = laid.few_terms;
      few_pledges = laid.few_pledges;
      pledges = laid_all b.version b.pledges b.at_hand laid.pledges laid.at_hand over;
      at_hand = (
        grind (arith, nat_tests, next),
        record { secrets = omega arith; entries = omega arith; extensions = omega arith; numbered = tt; known = λ one. refl },
      );
    })

abbrev IsLaid : Option Begun → Type 0
IsLaid None = Unit {0}
IsLaid (Some b) = IsLaidSoFar b

place_kept : (s : Option Begun) (r : Row) (c : Begun) → accept s r ≡ Ok c → IsLaid s → IsLaidSoFar c
place_kept None (Row.Book v t p) c h laid = go (nat_lt most_terms t || nat_lt most_pledges p) refl h where
  new : Begun
  new = record { version = v; terms_due = t; pledges_due = p; terms = []; pledges = []; at_hand = None }

  go : (many : Bool) → (nat_lt most_terms t || nat_lt most_pledges p) ≡ many → cond many (Err Cause.TooMany) (Ok new) ≡ Ok c → IsLaidSoFar c
  go true is h = cc
  go false is h = subst IsLaidSoFar (ok_same new c h)
      (record { few_terms = grind (arith, nat_tests, is); few_pledges = grind (arith, nat_tests, is); pledges = tt; at_hand = tt })
place_kept None r c h laid = cc
place_kept (Some b) (Row.Book v t p) c h laid = let e = guard_err (nat_lt most_terms t || nat_lt most_pledges p) _ c Cause.TooMany h in cc
place_kept (Some b) (Row.Terms v x) c h laid =
    let g = guard_ok _ (record b { terms = b.terms ++ x ∷ [] }) c Cause.Order h in
    subst IsLaidSoFar g.1 (record { few_terms = laid.few_terms; few_pledges = laid.few_pledges; pledges = laid.pledges; at_hand = laid.at_hand })
place_kept (Some b) (Row.Pledge x) c h laid = pledge_kept b c x h laid
place_kept (Some b) (Row.Secret n at x) c h laid =
    hand_kept b c n b.at_hand (λ p. accept_secret p at x) refl h (λ p q is. secret_within b.version p q at x is) laid
place_kept (Some b) (Row.Entry n x) c h laid = hand_kept b c n b.at_hand (λ p. accept_entry p x) refl h (λ p q is. entry_within b.version p q x is) laid
place_kept (Some b) (Row.Extension n at x) c h laid =
    let s = second_only b.version _ c h in
    hand_kept b c n b.at_hand (λ p. accept_extension p at x) refl s.1 (λ p q is within. subst (λ (v : Version).
    (q.columns ≡ p.columns) × IsWithin v q) (sym s.0)
    (extension_within p q at x is (subst (λ (v : Version). IsWithin v p) s.0 within))) laid
place_kept (Some b) (Row.Booking n x) c h laid = hand_kept b c n b.at_hand (λ p. accept_booking p x) refl h (λ p q is. booking_within b.version p q x is) laid

run_kept : (rows : List Row) (s t : Option Begun) → run s rows ≡ Ok t → IsLaid s → IsLaid t
run_kept [] s t h laid = subst IsLaid (ok_same s t h) laid
run_kept (r ∷ rows) s t h laid =
    elim (accept s r) as (λ v. accept s r ≡ v → then_run v (λ m. run m rows) ≡ Ok t → IsLaid t) [
      | Ok b ↦ λ at rest. run_kept rows (Some b) t rest (place_kept s r b at laid)
      | Err e ↦ λ at rest. cc
    ] refl h

-- ---- rows that are accepted to their end

pub taken_are_laid_out : TakenAreLaidOut
taken_are_laid_out rows b ran whole =
    let (terms, pledges, ended) = whole_counts b whole in
    let laid = run_kept rows None (Some b) ran tt in
    let few_terms = laid.few_terms in
    let few_pledges = laid.few_pledges in
    let shown = (run_grows rows None (Some b) ran tt).0 in (
      record {
        few_terms = omega (arith, terms, few_terms);
        few_pledges = omega (arith, pledges, few_pledges);
        laid = laid_all b.version b.pledges b.at_hand laid.pledges laid.at_hand ended;
      },
      sym shown ∙ (λ i. Row.Book b.version (terms i) (pledges i) ∷ (terms_rows 1 b.terms ++ flat_map raw_rows (pledges_begun b))),
    )

-- ---- rows that are refused

still_refused : (rows more : List Row) (s : Option Begun) (c : Cause) → run s rows ≡ Err c → run s (rows ++ more) ≡ Err c
still_refused [] more s c h = cc
still_refused (r ∷ rows) more s c h =
    elim (accept s r) as (λ v. then_run v (λ m. run m rows) ≡ Err c → then_run v (λ m. run m (rows ++ more)) ≡ Err c) [
      | Ok b ↦ λ on. still_refused rows more (Some b) c on
      | Err e ↦ λ on. on
    ] h

pub refused_are_no_front : RefusedAreNoFront
refused_are_no_front rows more c v terms pledges refused laid same =
    let took = layouts_are_taken v terms pledges laid in
    absurd (let e = sym (still_refused rows more None c refused) ∙ ap (run None) same ∙ took.1 in cc)

-- a list that is full, or another answer
full : {A : Type 0} (count most : ℕ) (answer : Result A Cause) → (answer ≡ Err Cause.TooMany → ⊥) → unless_full count most answer ≡ Err Cause.TooMany
    → most ≤ count
full count most answer other h = go (nat_le most count) refl h where
  go : (full' : Bool) → nat_le most count ≡ full' → cond full' (Err Cause.TooMany) answer ≡ Err Cause.TooMany → most ≤ count
  go true is h = grind (arith, nat_tests, is)
  go false is h = absurd (other h)

in_order_not_many : {A : Type 0} (test : Bool) (x : A) → in_order test x ≡ Err Cause.TooMany → ⊥
in_order_not_many true x h = cc
in_order_not_many false x h = cc

hand_many : (b : Begun) (number : ℕ) (o : Option RawPledge) (f : RawPledge → Result RawPledge Cause) → on_hand b number o f ≡ Err Cause.TooMany
    → (p : RawPledge) × (o ≡ Some p) × (f p ≡ Err Cause.TooMany)
hand_many b number None f h = cc
hand_many b number (Some p) f h = (p, refl, go (p.columns.number == number) (f p) h) where
  go : (test : Bool) (x : Result RawPledge Cause) → cond test (put_hand b x) (Err Cause.Order) ≡ Err Cause.TooMany → x ≡ Err Cause.TooMany
  go true (Ok q) h = cc
  go true (Err e) h = cc
  go false x h = cc

second_many : (v : Version) (x : Result Begun Cause) → on_second v x ≡ Err Cause.TooMany → x ≡ Err Cause.TooMany
second_many Version.One x h = cc
second_many Version.Two x h = h

book_many : (s : Option Begun) (v : Version) (t p : ℕ) → accept_book s v t p ≡ Err Cause.TooMany → (most_terms < t) ⊎ (most_pledges < p)
book_many s v t p h = go (nat_lt most_terms t) (nat_lt most_pledges p) refl refl h where
  go : (a b : Bool) → nat_lt most_terms t ≡ a → nat_lt most_pledges p ≡ b → cond (a || b) (Err Cause.TooMany) (accept_first s v t p) ≡ Err Cause.TooMany
      → (most_terms < t) ⊎ (most_pledges < p)
  go true b is at h = inl (grind (arith, nat_tests, is))
  go false true is at h = inr (grind (arith, nat_tests, at))
  go false false is at h = absurd (first s h) where
    first : (o : Option Begun) → accept_first o v t p ≡ Err Cause.TooMany → ⊥
    first None h = cc
    first (Some b) h = cc

pub too_many_is_above_a_limit : TooManyIsAboveALimit
too_many_is_above_a_limit None (Row.Book v t p) h = book_many None v t p h
too_many_is_above_a_limit None r h = cc
too_many_is_above_a_limit (Some b) (Row.Book v t p) h = book_many (Some b) v t p h
too_many_is_above_a_limit (Some b) (Row.Terms v x) h = in_order_not_many _ _ h
too_many_is_above_a_limit (Some b) (Row.Pledge x) h = in_order_not_many _ _ h
too_many_is_above_a_limit (Some b) (Row.Secret n at x) h =
    let (p, is, many) = hand_many b n b.at_hand (λ p. accept_secret p at x) h in
    (b, p, refl, is, full (length p.secrets) most_secrets _ (in_order_not_many _ _) many)
too_many_is_above_a_limit (Some b) (Row.Entry n x) h =
    let (p, is, many) = hand_many b n b.at_hand (λ p. accept_entry p x) h in
    (b, p, refl, is, full (length p.entries) most_entries _ (in_order_not_many _ _) many)
too_many_is_above_a_limit (Some b) (Row.Extension n at x) h =
    let (p, is, many) = hand_many b n b.at_hand (λ p. accept_extension p at x) (second_many b.version _ h) in
    (b, p, refl, is, full (length p.extensions) most_extensions _ (in_order_not_many _ _) many)
too_many_is_above_a_limit (Some b) (Row.Booking n x) h =
    let (p, is, many) = hand_many b n b.at_hand (λ p. accept_booking p x) h in
    in_order_not_many _ _ many

-- ---- rows of no book

known_from : (v : Version) (n : ℕ) (ps : List PledgeValue) → AreLaidFrom n v (map raw_of ps) → v ≡ Version.One → Each (λ p. p.extensions ≡ []) ps
known_from v n [] laid one = tt
known_from v n (p ∷ ps) laid one = (laid.2.known one, known_from v (n + 1) ps laid.3 one)

knows : (v : Version) (k : BookRows) → AreLaidFrom 1 v (map raw_of k.pledges) → Knows v k
knows Version.One k laid = known_from Version.One 1 k.pledges laid refl
knows Version.Two k laid = tt

same_begun : (s : Option Begun) (b c : Begun) → s ≡ Some b → s ≡ Some c → b ≡ c
same_begun s b c x y = let e = sym x ∙ y in cc

pub not_replayable_is_of_no_book : NotReplayableIsOfNoBook
not_replayable_is_of_no_book v terms pledges s laid ran =
    let (b, took, whole, terms_are, pledges_are) = layouts_are_taken v terms pledges laid in
    let is : s ≡ Some b = ok_same s (Some b) (sym ran ∙ took) in (
      λ refuses k replayable known same.
          let (c, made, over, of_book) = run_book v k replayable known in
          let one : s ≡ Some c = ok_same s (Some c) (sym ran ∙ ap (run None) same ∙ made) in
          refuses.3 k (subst (λ (d : Begun). IsBegunOf d k) (same_begun s c refuses.0 one refuses.1) of_book) replayable,
      λ none. (
        b,
        is,
        ap is_whole is ∙ whole,
        λ k of_book replayable.
            let terms_same : terms ≡ k.terms = sym terms_are ∙ of_book.0 in
            let pledges_same : pledges ≡ map raw_of k.pledges = sym pledges_are ∙ of_book.1.0 in
            none k replayable (knows v k (subst (AreLaidFrom 1 v) pledges_same laid.laid))
            ((λ i. laid_rows v (terms_same i) (pledges_same i)) ∙ book_rows_are v k),
      ),
    )
