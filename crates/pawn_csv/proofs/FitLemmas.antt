-- The rows of a replayable book can be spelled.
use Rattle.pawn_base.proofs.RefusalLemmas.{first_of-is_ok}
use Rattle.pawn_book.proofs.SoundLists.{under_length}
use Rattle.pawn_csv.proofs.Basics.{◌≡◌, ◌∙◌, ◌+◌, ◌-◌, ◌*◌, ◌≤◌, ℕ, false, List, [], ◌∷◌, ◌++◌, length, Option, Some}
use Rattle.pawn_csv.proofs.Basics.{None, IsOk, Ok, sym, ap, subst, arith, IfSome, last_by-le, nat_tests}
use Rattle.pawn_csv.proofs.RoundLemmas.{held_texts_are_read}
use Rattle.pawn_csv.specs.Common.{AreExtended, AreNumbered, AreOrdered, AreWords, Booking, Closing, DebtValue}
use Rattle.pawn_csv.specs.Common.{DoNotFall, Draw, Due, Each, Entry, Extension, HasTextsAndWords, IsBooked, IsClosed}
use Rattle.pawn_csv.specs.Common.{IsReachable, IsUnder, Issued, PledgeValue, Rates, Repay, Sort, debt_of, due, end_with}
use Rattle.pawn_csv.specs.Common.{flat_map, last_by, last_of, most_pence, total_on}
use Rattle.pawn_csv.specs.Laws.{WritableBooksFit, TextsAreRead, TextsOfHostsAreRead}
use Rattle.pawn_csv.specs.Rows.{AreColumns, FitsColumns, IsColumnNumber, booking_csv_rows, closing_amount, closing_day}
use Rattle.pawn_csv.specs.Rows.{entry_rows, extension_rows, pledge_columns, pledge_csv_rows, secret_rows, terms_rows}
use Rattle.pawn_csv.specs.Types.{Row, Version}
use Rattle.pawn_debt.proofs.Bounds.{accepted-bounded, after_days-small}
use Rattle.pawn_debt.proofs.DueLemmas.{after_days-principal}
use Rattle.pawn_debt.proofs.EntryLemmas.{due-from-last}
use Rattle.pawn_debt.specs.Answers.{draw_refusals, is_bad_amount, repay_refusals, with_entry}
use Rattle.pawn_debt.specs.Replay.{AreEntriesAccepted, sort_answer}
use Rattle.pawn_terms.specs.Calendar.{IsRequestDay, first_day}
use Rattle.pawn_terms.specs.Limits.{last_request_day}
use Rattle.pawn_terms.specs.Terms.{IsChecked}

each_both : (xs ys : List Row) → Each FitsColumns xs → Each FitsColumns ys → Each FitsColumns (xs ++ ys)
each_both [] ys hx hy = hy
each_both (x ∷ xs) ys hx hy = (hx.0, each_both xs ys hx.1 hy)

-- ---- sums

few_pence : (pence : ℕ) → is_bad_amount pence ≡ false → IsColumnNumber pence
few_pence pence h = let few : pence ≤ most_pence = grind (arith, nat_tests, h) in omega (arith, few)

-- a sum that the rules accept is at most a million pounds
accepted_pence : (s : Sort) (d : DebtValue) (x pence : ℕ) → IsOk (sort_answer s d x pence) → IsColumnNumber pence
accepted_pence Draw d x pence h = few_pence pence ((first_of-is_ok (draw_refusals d x pence) (Ok (with_entry d x Draw pence)) h).0.1.1.0)
accepted_pence Repay d x pence h = few_pence pence ((first_of-is_ok (repay_refusals d x pence) (Ok (with_entry d x Repay pence)) h).0.1.0)

all_pence : (d : DebtValue) (prior es : List Entry) → AreEntriesAccepted d prior es → Each (λ e. IsColumnNumber e.pence) es
all_pence d prior [] h = tt
all_pence d prior (e ∷ es) h = (accepted_pence e.sort (record d { entries = prior }) e.day e.pence h.0.1, all_pence d (prior ++ e ∷ []) es h.1)

-- the sum owed on a pledge's last day has at most twelve digits
total_fits : (p : PledgeValue) → IsReachable p → IsColumnNumber (total_on p p.standing.last)
total_fits p h =
    let d = debt_of p in
    let x = p.standing.last in
    let entered = h.replayable.entered in
    let credit = h.replayable.credit.1 in
    let bounded = accepted-bounded d h.terms credit entered.accepted in
    let last = last_of d.taken d.entries in
    let low = last_by-le (λ (e : Entry). e.day) d.taken d.entries entered.ordered in
    let same = due-from-last d x entered.ordered entered.before in
    let principal = after_days-principal d.terms d.ends last (x - last) (due d last) in
    let small = after_days-small d.terms d.ends last (x - last) (due d last) h.terms bounded.principal in
    let millionths : (due d x).millionths ≤ 84005 * 2000010000000 =
    omega (arith, ap (λ (o : Due). o.millionths) same, small, bounded.millionths, low, entered.before, h.within.last) in
    let pence : (due d x).principal ≤ most_pence = omega (arith, ap (λ (o : Due). o.principal) same, principal, bounded.principal) in
    omega (arith, millionths, pence)

-- ---- the rows of terms

fit_terms : (v : ℕ) (ts : List Rates) → Each IsChecked ts → v + length ts ≤ 1000 → Each FitsColumns (terms_rows v ts)
fit_terms v [] h few = tt
fit_terms v (t ∷ ts) h few =
    ((omega (arith, few), omega (arith, h.0.0), omega (arith, h.0.1), omega (arith, h.0.1, h.0.2)), fit_terms (v + 1) ts h.1 (omega (arith, few)))

-- ---- the rows of a pledge

fit_secrets : (n k low : ℕ) (is : List Issued) → IsColumnNumber n → k + length is ≤ 1000 → first_day ≤ low → DoNotFall (λ i. i.day) low is
    → last_by (λ i. i.day) low is ≤ last_request_day → AreWords is → Each FitsColumns (secret_rows n k is)
fit_secrets n k low [] hn few from ordered before words = tt
fit_secrets n k low (i ∷ is) hn few from ordered before words =
    let late = last_by-le (λ (i : Issued). i.day) i.day is ordered.1 in (
      (hn, omega (arith, few), (omega (arith, from, ordered.0), omega (arith, late, before)), words.0),
      fit_secrets n (k + 1) i.day is hn (omega (arith, few)) (omega (arith, from, ordered.0)) ordered.1 before words.1,
    )

fit_entries : (n k low : ℕ) (es : List Entry) → IsColumnNumber n → AreNumbered k es → k + length es ≤ 100000 → first_day ≤ low → AreOrdered low es
    → last_of low es ≤ last_request_day → Each (λ e. IsColumnNumber e.pence) es → Each FitsColumns (entry_rows n es)
fit_entries n k low [] hn numbered few from ordered before pence = tt
fit_entries n k low (e ∷ es) hn numbered few from ordered before pence =
    let late = last_by-le (λ (e : Entry). e.day) e.day es ordered.1 in (
      (hn, omega (arith, numbered.0, few), (omega (arith, from, ordered.0), omega (arith, late, before)), pence.0),
      fit_entries n (k + 1) e.day es hn numbered.1 (omega (arith, few)) (omega (arith, from, ordered.0)) ordered.1 before pence.1,
    )

fit_extensions : (n k low ends : ℕ) (xs : List Extension) → IsColumnNumber n → k + length xs ≤ 1000 → first_day ≤ low → AreExtended low ends xs
    → Each (λ e. e.until ≤ last_request_day) xs → Each FitsColumns (extension_rows n k xs)
fit_extensions n k low ends [] hn few from extended untils = tt
fit_extensions n k low ends (e ∷ es) hn few from extended untils = (
  (
    hn,
    omega (arith, few),
    (omega (arith, from, extended.0), omega (arith, extended.1, extended.2, untils.0)),
    (omega (arith, from, extended.0, extended.1, extended.2), untils.0),
  ),
  fit_extensions n (k + 1) e.day e.until es hn (omega (arith, few)) (omega (arith, from, extended.0)) extended.3 untils.1,
)

fit_booking : (p : PledgeValue) (n : ℕ) (o : Option Booking) → IsColumnNumber n → first_day ≤ p.agreement.taken → IsBooked p o
    → IfSome o (λ b. b.day ≤ last_request_day) → Each FitsColumns (booking_csv_rows n o)
fit_booking p n None hn from booked before = tt
fit_booking p n (Some b) hn from booked before = ((hn, (omega (arith, from, booked.0), before), omega (arith, booked.2)), tt)

-- ---- the row of a pledge

fit_closing_day : (p : PledgeValue) (c : Closing) → IsClosed p c → IsRequestDay p.standing.last → IfSome (closing_day c) IsRequestDay
fit_closing_day p Closing.Open h last = tt
fit_closing_day p (Closing.Redeemed day paid) h last = subst IsRequestDay (sym h.0) last
fit_closing_day p (Closing.Sold day net) h last = subst IsRequestDay (sym h.0) last

fit_amount : (p : PledgeValue) (c : Closing) → IsClosed p c → IsColumnNumber (total_on p p.standing.last) → IfSome (closing_amount c) IsColumnNumber
fit_amount p Closing.Open h total = tt
fit_amount p (Closing.Redeemed day paid) h total = subst IsColumnNumber (sym (h.1 ∙ ap (total_on p) h.0)) total
fit_amount p (Closing.Sold day net) h total = omega (arith, h.2)

fit_columns : (terms : List Rates) (p : PledgeValue) → length terms ≤ 1000 → IsUnder terms p → IsReachable p → HasTextsAndWords p → AreColumns
    (pledge_columns p)
fit_columns terms p few under h written =
    let from = written.taken.0 in
    let r = h.replayable in
    let last : IsRequestDay p.standing.last = (omega (arith, from, r.last_in), h.within.last) in
    let version = under_length terms p.agreement.version p.agreement.terms under in
    record {
      number = omega (arith, h.within.number.1);
      opening = h.within.opening;
      reference = written.reference;
      article = written.article;
      credit = omega (arith, r.credit.1);
      taken = (from, omega (arith, r.last_in, h.within.last));
      version = omega (arith, version, few);
      last = last;
      closing_day = fit_closing_day p p.standing.closing r.closed last;
      amount = fit_amount p p.standing.closing r.closed (total_fits p h);
    }

fit_pledge : (terms : List Rates) (p : PledgeValue) → length terms ≤ 1000 → IsUnder terms p → IsReachable p → HasTextsAndWords p
    → Each FitsColumns (pledge_csv_rows p)
fit_pledge terms p few under h written =
    let from = written.taken.0 in
    let n = p.agreement.number in
    let a = p.agreement in
    let r = h.replayable in
    let short : IsColumnNumber n = omega (arith, h.within.number.1) in
    let secrets = fit_secrets n 1 a.taken p.secrets short (omega (arith, h.within.secrets)) from r.issued.ordered
    (omega (arith, r.issued.before, h.within.last)) written.secrets in
    let entries = fit_entries n 1 a.taken p.entries short r.entered.numbered (omega (arith, h.within.entries)) from r.entered.ordered
    (omega (arith, r.entered.before, h.within.last)) (all_pence (debt_of p) [] p.entries r.entered.accepted) in
    let extensions =
    fit_extensions n 1 a.taken (end_with a None) p.extensions short (omega (arith, h.within.extensions)) from r.extended.each h.within.untils in
    let booking = fit_booking p n p.standing.booking short from r.booked h.within.booking in (
      fit_columns terms p few under h written,
      each_both (secret_rows n 1 p.secrets) _ secrets (each_both (entry_rows n p.entries) _ entries
          (each_both (extension_rows n 1 p.extensions) (booking_csv_rows n p.standing.booking) extensions booking)),
    )

fit_pledges : (terms : List Rates) (ps : List PledgeValue) → length terms ≤ 1000 → Each (IsUnder terms) ps → Each IsReachable ps → Each HasTextsAndWords ps
    → Each FitsColumns (flat_map pledge_csv_rows ps)
fit_pledges terms [] few under h written = tt
fit_pledges terms (p ∷ ps) few under h written =
    each_both (pledge_csv_rows p) (flat_map pledge_csv_rows ps) (fit_pledge terms p few under.0 h.0 written.0) (fit_pledges terms ps few under.1 h.1 written.1)

-- ---- books

pub writable_books_fit : WritableBooksFit
writable_books_fit v k h knows =
    let r = h.replayable in (
      r,
      knows,
      (
        (omega (arith, r.few_terms), omega (arith, r.few_pledges)),
        each_both (terms_rows 1 k.terms) (flat_map pledge_csv_rows k.pledges) (fit_terms 1 k.terms r.checked (omega (arith, r.few_terms)))
            (fit_pledges k.terms k.pledges (omega (arith, r.few_terms)) r.under r.reachable h.texts_and_words),
      ),
    )

pub texts_are_read : TextsAreRead
texts_are_read k h = held_texts_are_read k (writable_books_fit Version.Two k h tt)

pub texts_of_hosts_are_read : TextsOfHostsAreRead
texts_of_hosts_are_read h b book sound at =
    let is = (sound.books b book at).1 in
    texts_are_read (record { terms = book.terms; pledges = book.pledges }) (record { replayable = is.rows; texts_and_words = is.texts_and_words })
