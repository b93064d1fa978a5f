-- Each step that changes a pledge is one of a few moves.
use Rattle.pawn_base.proofs.RefusalLemmas.{first_of-ok}
use Rattle.pawn_base.proofs.TestLemmas.{not_below, not_most}
use Rattle.pawn_debt.proofs.ReplayLemmas.{sort_answer-ok}
use Rattle.pawn_pledge.proofs.Settled.{IsGated, IsSettled, hold-settles, ask-settles, mark-settles, close-settles}
use Rattle.pawn_pledge.specs.Commands.{IsCommand}
use Rattle.pawn_pledge.specs.Common.{DebtFault, DebtValue, Draw, Entry, NoneApplies, Repay, Sort, draw_answer, first_of}
use Rattle.pawn_pledge.specs.Common.{last_of, last_request_day, most_entries, most_pence, repay_answer, sort_answer}
use Rattle.pawn_pledge.specs.Common.{with_entry}
use Rattle.pawn_pledge.specs.Limits.{last_window, most_extensions}
use Rattle.pawn_pledge.specs.Pledge.{PledgeValue, debt_of, end_of, is_realisable, open_status, total_on}
use Rattle.pawn_pledge.specs.Replayable.{IsDrawnBy, IsNotPassed}
use Rattle.pawn_pledge.specs.Step.{Answered, Changed, StepResult, ask_refusals, ask_once, ask_step, shared_refusals, cancel_in}
use Rattle.pawn_pledge.specs.Step.{cancel_step, confirm_in, decide_step, declare_refusals, declare_step, decline_in}
use Rattle.pawn_pledge.specs.Step.{entry_step, extend_refusals, extend_step, hold_step, makes_booking, numbered_step}
use Rattle.pawn_pledge.specs.Step.{where_clear, period_refusals, pledge_step, redeem_refusals, redeem_step, sell_refusals}
use Rattle.pawn_pledge.specs.Step.{sell_step, under_debt, unless}
use Rattle.pawn_pledge.specs.Words.{in_state, is_ahead, is_open, is_repeat, is_active, issue_of, new_entry, same_flag}
use Rattle.pawn_pledge.specs.Words.{is_asked_again, with_booking, with_extension, with_last, with_secret, with_standing}
use Rattle.pawn_pledge.specs.declared.command.Command.{Command}
use Rattle.pawn_pledge.specs.declared.command.Decision.{Decision}
use Rattle.pawn_pledge.specs.declared.command.Decision.TheVariants.{Confirm, Refuse}
use Rattle.pawn_pledge.specs.declared.command.Done.{Done}
use Rattle.pawn_pledge.specs.declared.command.Paper.{Paper}
use Rattle.pawn_pledge.specs.declared.command.Stamp.{Stamp}
use Rattle.pawn_pledge.specs.declared.record.Booking.{Booking}
use Rattle.pawn_pledge.specs.declared.record.BookingState.{BookingState}
use Rattle.pawn_pledge.specs.declared.record.Closing.{Closing}
use Rattle.pawn_pledge.specs.declared.record.Standing.{Standing}
use Rattle.pawn_pledge.specs.declared.record.Status.{Status}
use Rattle.pawn_pledge.specs.declared.refusal.Refusal.{Refusal}
use Rattle.std.proofs.Common.{◌≡◌, ℕ, ◌<◌, ◌≤◌, ◌==◌, nat_lt, Bool, true, false, not, if◌then◌else◌, List, [], ◌∷◌}
use Rattle.std.proofs.Common.{◌++◌, length, Option, Some, None, Result, Ok, Err, refl, sym, ap, subst, ◌∙◌, arith}
use Rattle.std.proofs.Common.{true≢false}
use Rattle.std.proofs.lemmas.Bool.Decides.{nat_tests}

-- a step that changes was not refused on the way
where_clear-changed : (g : Result (Unit {0}) Refusal) (own : StepResult) (q : PledgeValue) (d : Done) → where_clear g own ≡ Changed q d
    → (g ≡ Ok tt) × (own ≡ Changed q d)
where_clear-changed (Ok u) own q d h = (refl, h)
where_clear-changed (Err e) own q d h = cc

pub unless-changed : (rows : List (Bool × Refusal)) (own : StepResult) (q : PledgeValue) (d : Done) → unless rows own ≡ Changed q d
    → NoneApplies rows × (own ≡ Changed q d)
unless-changed rows own q d h =
    let a = where_clear-changed (first_of rows (Ok tt)) own q d h in
    ((first_of-ok rows (Ok tt) tt a.0).0, a.1)

-- a step that changes was not answered without a change on the way
pub if-unanswered : (b : Bool) (a : Done) (own : StepResult) (q : PledgeValue) (d : Done) → (if b then Answered a else own) ≡ Changed q d
    → (b ≡ false) × (own ≡ Changed q d)
if-unanswered true a own q d h = cc
if-unanswered false a own q d h = (refl, h)

pub changed-is : (p q : PledgeValue) (d e : Done) → Changed p d ≡ Changed q e → q ≡ p
changed-is p q d e h = cc

not_other : (a b : ℕ) → not (a == b) ≡ false → a ≡ b
not_other a b h = by (a == b) refl h where
  by : (t : Bool) → (a == b) ≡ t → not t ≡ false → a ≡ b
  by true e k = grind (arith, nat_tests, e)
  by false e k = absurd (true≢false k)

not_same : (a b : ℕ) → (a == b) ≡ false → a ≡ b → ⊥
not_same a b h e = grind (arith, nat_tests, h, e)

open-is : (c : Closing) → not (is_open c) ≡ false → c ≡ Closing.Open
open-is Closing.Open h = refl
open-is closed h = absurd (true≢false h)

pub past-shared : (p : PledgeValue) (x : ℕ) → NoneApplies (shared_refusals p x) → IsGated p x
past-shared p x h = record { later = not_below x p.standing.last h.0; standing = open-is p.standing.closing h.1.0; not_passed = h.1.1.0 }

-- the moves: what a step that changes the pledge does, on the day x with the word w; a day in the command is one that a
-- request may name
pub data Move (p : PledgeValue) (x w : ℕ) (command : Command) (q : PledgeValue) : Type 0 where
  Entering : (sort : Sort) (pence : ℕ) → sort_answer sort (debt_of p) x pence ≡ Ok (with_entry (debt_of p) x sort pence)
      → last_of p.agreement.taken p.entries ≤ x → length p.entries < most_entries → IsDrawnBy (end_of p) sort x
      → q ≡ record p { entries = p.entries ++ new_entry p x sort pence ∷ []; standing = with_last p.standing x } → Move p x w command q
  Declaring : (paper : Paper) → NoneApplies (declare_refusals p paper w)
      → q ≡ with_secret p (record { day = x; sort = issue_of paper; secret = w }) → Move p x w command q
  Extending : (until : ℕ) → x ≤ end_of p → end_of p < until → length p.extensions < most_extensions
      → (IsCommand command → until ≤ last_request_day) → q ≡ with_extension p (record { day = x; until = until }) → Move p x w command q
  Settling : (s : Standing) → IsSettled p x command s → q ≡ with_standing p s → Move p x w command q

-- drawings and repayments
under_debt-moves : (p q : PledgeValue) (c : Command) (w x : ℕ) (sort : Sort) (pence : ℕ) (r : Result DebtValue DebtFault) (d : Done)
    → sort_answer sort (debt_of p) x pence ≡ r → IsDrawnBy (end_of p) sort x → under_debt p x sort pence r ≡ Changed q d → Move p x w c q
under_debt-moves p q c w x sort pence (Ok v) d is drawn h =
    let a = sort_answer-ok sort (debt_of p) v x pence is in
    let moved : q ≡ record p { entries = v.entries; standing = with_last p.standing x } =
    changed-is (record p { entries = v.entries; standing = with_last p.standing x }) q _ d h in
    Entering sort pence (is ∙ ap (λ (w : DebtValue). Ok w) a.2) a.0 a.1 drawn
    (moved ∙ ap (λ (w : DebtValue). record p { entries = w.entries; standing = with_last p.standing x }) a.2)
under_debt-moves p q c w x sort pence (Err fault) d is drawn h = cc

entry-moves : (p q : PledgeValue) (c : Command) (w x : ℕ) (sort : Sort) (pence : ℕ) (d : Done) → entry_step p x sort pence ≡ Changed q d → Move p x w c q
entry-moves p q c w x Draw pence d h =
    let a = unless-changed (period_refusals p x) (under_debt p x Draw pence (draw_answer (debt_of p) x pence)) q d h in
    under_debt-moves p q c w x Draw pence (draw_answer (debt_of p) x pence) d refl (not_below (end_of p) x a.0.0) a.1
entry-moves p q c w x Repay pence d h = under_debt-moves p q c w x Repay pence (repay_answer (debt_of p) x pence) d refl tt h

-- none of the shared refusals applies, and then a move follows
abbrev pub Goes : PledgeValue → ℕ → ℕ → Command → PledgeValue → Type 0
Goes p x w c q = IsGated p x × Move p x w c q

gated : (p q : PledgeValue) (c : Command) (w x : ℕ) (own : StepResult) (d : Done) → (IsGated p x → own ≡ Changed q d → Move p x w c q)
    → unless (shared_refusals p x) own ≡ Changed q d → Goes p x w c q
gated p q c w x own d moves h =
    let a = unless-changed (shared_refusals p x) own q d h in
    let g = past-shared p x a.0 in
    (g, moves g a.1)

numbered-moves : (p q : PledgeValue) (c : Command) (w x seq : ℕ) (sort : Sort) (pence : ℕ) (o : Option Entry) (d : Done)
    → numbered_step p x seq sort pence o ≡ Changed q d → Goes p x w c q
numbered-moves p q c w x seq sort pence (Some e) d h =
    let a = unless-changed ((not (is_repeat e sort pence), Refusal.SeqTaken) ∷ []) (Answered (Done.Entered e)) q d h in
    let never : Answered (Done.Entered e) ≡ Changed q d = a.1 in
    cc
numbered-moves p q c w x seq sort pence None d h =
    let a = unless-changed ((is_ahead p seq, Refusal.SeqAhead) ∷ []) (unless (shared_refusals p x) (entry_step p x sort pence)) q d h in
    gated p q c w x (entry_step p x sort pence) d (λ g k. entry-moves p q c w x sort pence d k) a.1

-- a move that changes only the `Standing` of the pledge
settled : (p q : PledgeValue) (c : Command) (w x : ℕ) (s : Standing) (e d : Done) → IsSettled p x c s → Changed (with_standing p s) e ≡ Changed q d
    → Move p x w c q
settled p q c w x s e d to h = Settling s to (changed-is (with_standing p s) q e d h)

-- the hold
hold-moves : (p q : PledgeValue) (c : Command) (w x : ℕ) (flag : Bool) (d : Done) → IsGated p x → hold_step p x flag ≡ Changed q d → Move p x w c q
hold-moves p q c w x flag d g h =
    let a = if-unanswered (same_flag p.standing.held flag) _ _ q d h in
    settled p q c w x _ _ d (hold-settles p x c flag g a.0) a.1

-- declarations
declare-moves : (p q : PledgeValue) (c : Command) (stamp : Stamp) (paper : Paper) (d : Done) → declare_step p stamp paper ≡ Changed q d
    → Move p stamp.day stamp.word c q
declare-moves p q c stamp paper d h =
    let next : PledgeValue = with_secret p (record { day = stamp.day; sort = issue_of paper; secret = stamp.word }) in
    let a = unless-changed (declare_refusals p paper stamp.word) (Changed next (Done.Declared stamp.word)) q d h in
    Declaring paper a.0 (changed-is next q _ d a.1)

-- bookings; one for that day and window that doesn't stand is another than the one asked for
stands-asked : (b : Booking) → b.state ≡ BookingState.Asked → is_asked_again b b.day b.window ≡ true
stands-asked b e = let s : is_active b.state ≡ true = rw e refl in grind (arith, nat_tests, s)

ask_once-moves : (p q : PledgeValue) (c : Command) (w x day window : ℕ) (o : Option Booking) (d : Done) → p.standing.booking ≡ o
    → ((b : Booking) → b.day ≡ day → b.window ≡ window → (p.standing.booking ≡ Some b → ⊥) → IsSettled p x c (with_booking p.standing b x))
    → ask_once p x day window o ≡ Changed q d → Move p x w c q
ask_once-moves p q c w x day window None d is settles h =
    let b : Booking = record { day = day; window = window; state = BookingState.Asked } in
    settled p q c w x _ _ d (settles b refl refl (λ e. let f : None ≡ Some b = sym is ∙ e in cc)) h
ask_once-moves p q c w x day window (Some o) d is settles h =
    let b : Booking = record { day = day; window = window; state = BookingState.Asked } in
    let a = if-unanswered (is_asked_again o day window) _ _ q d h in
    settled p q c w x _ _ d (settles b refl refl (λ e.
    let f : Some o ≡ Some b = sym is ∙ e in
    let g : o ≡ b = cc in
    let t : is_asked_again o day window ≡ true = ap (λ (k : Booking). is_asked_again k day window) g ∙ stands-asked b refl in
    true≢false (sym t ∙ a.0)))
    a.1

ask-moves : (p q : PledgeValue) (c : Command) (w x day window : ℕ) (d : Done) → (IsCommand c → day ≤ last_request_day) → IsGated p x
    → ask_step p x day window ≡ Changed q d → Move p x w c q
ask-moves p q c w x day window d named g h =
    let a = unless-changed (ask_refusals p x day window) (ask_once p x day window p.standing.booking) q d h in
    let later = not_below day x a.0.1.0 in
    let small = not_below last_window window a.0.0 in
    ask_once-moves p q c w x day window p.standing.booking d refl (λ b at same new. ask-settles p x c b g (omega (arith, later, at))
    (subst (IsNotPassed p) (sym at) a.0.1.1.0) (omega (arith, small, same)) (λ n. omega (arith, named n, at)) new) a.1

marked : (p q : PledgeValue) (c : Command) (w x : ℕ) (b : Booking) (state : BookingState) (d : Done) → IsGated p x → p.standing.booking ≡ Some b
    → (b.state ≡ state → ⊥) → makes_booking p x (in_state b state) ≡ Changed q d → Move p x w c q
marked p q c w x b state d g is other h = settled p q c w x _ _ d (mark-settles p x c b state g is other) h

-- two states of a booking that differ
other : (s t u : BookingState) → s ≡ t → (t ≡ u → ⊥) → s ≡ u → ⊥
other s t u e n f = n (sym e ∙ f)

cancel_in-moves : (p q : PledgeValue) (c : Command) (w x : ℕ) (b : Booking) (s : BookingState) (d : Done) → IsGated p x → p.standing.booking ≡ Some b
    → b.state ≡ s → cancel_in p x b s ≡ Changed q d → Move p x w c q
cancel_in-moves p q c w x b BookingState.Asked d g is at h =
    marked p q c w x b BookingState.Cancelled d g is (other b.state BookingState.Asked BookingState.Cancelled at (λ e. cc)) h
cancel_in-moves p q c w x b BookingState.Confirmed d g is at h =
    marked p q c w x b BookingState.Cancelled d g is (other b.state BookingState.Confirmed BookingState.Cancelled at (λ e. cc)) h
cancel_in-moves p q c w x b BookingState.Refused d g is at h = cc
cancel_in-moves p q c w x b BookingState.Cancelled d g is at h = cc

cancel-moves : (p q : PledgeValue) (c : Command) (w x : ℕ) (o : Option Booking) (d : Done) → IsGated p x → p.standing.booking ≡ o
    → cancel_step p x o ≡ Changed q d → Move p x w c q
cancel-moves p q c w x None d g is h = cc
cancel-moves p q c w x (Some b) d g is h = cancel_in-moves p q c w x b b.state d g is refl h

confirm_in-moves : (p q : PledgeValue) (c : Command) (w x : ℕ) (b : Booking) (s : BookingState) (d : Done) → IsGated p x → p.standing.booking ≡ Some b
    → b.state ≡ s → confirm_in p x b s ≡ Changed q d → Move p x w c q
confirm_in-moves p q c w x b BookingState.Asked d g is at h =
    let a = unless-changed ((nat_lt b.day x, Refusal.BookingDay) ∷ []) (makes_booking p x (in_state b BookingState.Confirmed)) q d h in
    marked p q c w x b BookingState.Confirmed d g is (other b.state BookingState.Asked BookingState.Confirmed at (λ e. cc)) a.1
confirm_in-moves p q c w x b BookingState.Confirmed d g is at h = cc
confirm_in-moves p q c w x b BookingState.Refused d g is at h = cc
confirm_in-moves p q c w x b BookingState.Cancelled d g is at h = cc

decline_in-moves : (p q : PledgeValue) (c : Command) (w x : ℕ) (b : Booking) (s : BookingState) (d : Done) → IsGated p x → p.standing.booking ≡ Some b
    → b.state ≡ s → decline_in p x b s ≡ Changed q d → Move p x w c q
decline_in-moves p q c w x b BookingState.Asked d g is at h =
    marked p q c w x b BookingState.Refused d g is (other b.state BookingState.Asked BookingState.Refused at (λ e. cc)) h
decline_in-moves p q c w x b BookingState.Confirmed d g is at h =
    marked p q c w x b BookingState.Refused d g is (other b.state BookingState.Confirmed BookingState.Refused at (λ e. cc)) h
decline_in-moves p q c w x b BookingState.Refused d g is at h = cc
decline_in-moves p q c w x b BookingState.Cancelled d g is at h = cc

decide-moves : (p q : PledgeValue) (c : Command) (w x : ℕ) (decision : Decision) (o : Option Booking) (d : Done) → IsGated p x → p.standing.booking ≡ o
    → decide_step p x decision o ≡ Changed q d → Move p x w c q
decide-moves p q c w x Confirm None d g is h = cc
decide-moves p q c w x Refuse None d g is h = cc
decide-moves p q c w x Confirm (Some b) d g is h = confirm_in-moves p q c w x b b.state d g is refl h
decide-moves p q c w x Refuse (Some b) d g is h = decline_in-moves p q c w x b b.state d g is refl h

-- closings
redeem-moves : (p q : PledgeValue) (c : Command) (w x paid : ℕ) (d : Done) → IsGated p x → redeem_step p x paid ≡ Changed q d → Move p x w c q
redeem-moves p q c w x paid d g h =
    let a = unless-changed (redeem_refusals p x paid) _ q d h in
    settled p q c w x _ _ d (close-settles p x c (Closing.Redeemed x paid) g (refl, not_other paid (total_on p x) a.0.1.0, a.0.0) (λ e. cc)) a.1

realisable-is : (s : Status) → not (is_realisable s) ≡ false → s ≡ Status.Realisable
realisable-is Status.Realisable h = refl
realisable-is other h = absurd (true≢false h)

sell-moves : (p q : PledgeValue) (c : Command) (w x net : ℕ) (d : Done) → IsGated p x → sell_step p x net ≡ Changed q d → Move p x w c q
sell-moves p q c w x net d g h =
    let a = unless-changed (sell_refusals p x net) _ q d h in
    settled p q c w x _ _ d
    (close-settles p x c (Closing.Sold x net) g (refl, realisable-is (open_status p x) a.0.0, not_below most_pence net a.0.1.0) (λ e. cc)) a.1

-- longer periods
above : (m n : ℕ) → n ≤ m → (m ≡ n → ⊥) → n < m
above m n low apart = grind (arith, low, apart)

extend-moves : (p q : PledgeValue) (c : Command) (w x until : ℕ) (d : Done) → (IsCommand c → until ≤ last_request_day) → extend_step p x until ≡ Changed q d
    → Move p x w c q
extend-moves p q c w x until d named h =
    let next : PledgeValue = with_extension p (record { day = x; until = until }) in
    let own : StepResult = unless (extend_refusals p until) (Changed next (Done.Extended until)) in
    let a = unless-changed (period_refusals p x) (if until == end_of p then Answered (Done.Extended until) else own) q d h in
    let b = if-unanswered (until == end_of p) _ own q d a.1 in
    let e = unless-changed (extend_refusals p until) (Changed next (Done.Extended until)) q d b.1 in
    Extending until (not_below (end_of p) x a.0.0) (above until (end_of p) (not_below until (end_of p) e.0.0) (not_same until (end_of p) b.0))
    (not_most most_extensions (length p.extensions) e.0.1.0) named (changed-is next q _ d e.1)

pub pledge_moves : (p q : PledgeValue) (stamp : Stamp) (c : Command) (d : Done) → pledge_step p stamp c ≡ Changed q d → Goes p stamp.day stamp.word c q
pledge_moves p q stamp (Command.Draw seq pence) d h = numbered-moves p q _ stamp.word stamp.day seq Draw pence _ d h
pledge_moves p q stamp (Command.Repay seq pence) d h = numbered-moves p q _ stamp.word stamp.day seq Repay pence _ d h
pledge_moves p q stamp Command.Hold d h = gated p q _ stamp.word stamp.day _ d (λ g k. hold-moves p q _ stamp.word stamp.day true d g k) h
pledge_moves p q stamp Command.Release d h = gated p q _ stamp.word stamp.day _ d (λ g k. hold-moves p q _ stamp.word stamp.day false d g k) h
pledge_moves p q stamp (Command.Declare paper) d h = gated p q _ stamp.word stamp.day _ d (λ g k. declare-moves p q _ stamp paper d k) h
pledge_moves p q stamp (Command.AskBooking day window) d h =
    gated p q _ stamp.word stamp.day _ d (λ g k. ask-moves p q _ stamp.word stamp.day day window d (λ n. n.1) g k) h
pledge_moves p q stamp Command.CancelBooking d h =
    gated p q _ stamp.word stamp.day _ d (λ g k. cancel-moves p q _ stamp.word stamp.day p.standing.booking d g refl k) h
pledge_moves p q stamp (Command.DecideBooking decision) d h =
    gated p q _ stamp.word stamp.day _ d (λ g k. decide-moves p q _ stamp.word stamp.day decision p.standing.booking d g refl k) h
pledge_moves p q stamp (Command.Redeem paid) d h = gated p q _ stamp.word stamp.day _ d (λ g k. redeem-moves p q _ stamp.word stamp.day paid d g k) h
pledge_moves p q stamp (Command.Sell net) d h = gated p q _ stamp.word stamp.day _ d (λ g k. sell-moves p q _ stamp.word stamp.day net d g k) h
pledge_moves p q stamp (Command.Extend until) d h = gated p q _ stamp.word stamp.day _ d (λ g k. extend-moves p q _ stamp.word stamp.day until d (λ n. n.1) k) h
