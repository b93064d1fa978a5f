-- Repeated entries and extensions are answered again.
use Rattle.pawn_base.proofs.RefusalLemmas.{first_of-past}
use Rattle.pawn_debt.proofs.ReplayLemmas.{sort_answer-ok}
use Rattle.pawn_pledge.proofs.Growth.{lists_grow}
use Rattle.pawn_pledge.proofs.Moves.{unless-changed, if-unanswered}
use Rattle.pawn_pledge.specs.Common.{DebtFault, DebtValue, Draw, Entry, NoneApplies, Repay, Sort, draw_answer}
use Rattle.pawn_pledge.specs.Common.{repay_answer, sort_answer}
use Rattle.pawn_pledge.specs.Growth.{Grows}
use Rattle.pawn_pledge.specs.Laws.{EntriesActOnce, ExtensionsActOnce, SameEndIsAnswered, entry_command}
use Rattle.pawn_pledge.specs.Laws.{pledge_after_all}
use Rattle.pawn_pledge.specs.Pledge.{PledgeValue, debt_of, end_of}
use Rattle.pawn_pledge.specs.Replayable.{AreNumbered}
use Rattle.pawn_pledge.specs.Step.{Answered, Changed, StepResult, shared_refusals, entry_of, entry_step, extend_refusals, numbered_step}
use Rattle.pawn_pledge.specs.Step.{where_clear, period_refusals, pledge_step, under_debt, unless}
use Rattle.pawn_pledge.specs.Words.{is_ahead, is_repeat, new_entry, same_sort, with_extension, with_last}
use Rattle.pawn_pledge.specs.declared.command.Command.{Command}
use Rattle.pawn_pledge.specs.declared.command.Done.{Done}
use Rattle.pawn_pledge.specs.declared.command.Stamp.{Stamp}
use Rattle.pawn_pledge.specs.declared.refusal.Refusal.{Refusal}
use Rattle.std.proofs.Common.{◌≡◌, ◌≢◌, ℕ, ◌+◌, ◌≤◌, List, [], ◌∷◌, ◌++◌, length, Some, None, Ok, Err, refl, ◌∙◌, ap}
use Rattle.std.proofs.Common.{sym, arith, ◌==◌, nat_lt, not, true, false, Bool, Option, Result, if◌then◌else◌, ◌&&◌}
use Rattle.std.proofs.Common.{find}
use Rattle.std.proofs.lemmas.Bool.Decides.{nat_tests}

-- if there is no refusal, the result is the given one
pub unless-past : (rows : List (Bool × Refusal)) (own : StepResult) → NoneApplies rows → unless rows own ≡ own
unless-past rows own h = ap (λ r. where_clear r own) (first_of-past rows (Ok tt) h)

-- an entry that is made is the next one
abbrev IsMade : PledgeValue → ℕ → Sort → ℕ → PledgeValue → Done → Type 0
IsMade p x sort pence q d = (q.entries ≡ p.entries ++ new_entry p x sort pence ∷ []) × (d ≡ Done.Entered (new_entry p x sort pence))

changed-both : (p q : PledgeValue) (d e : Done) → Changed p d ≡ Changed q e → (q ≡ p) × (e ≡ d)
changed-both p q d e h = (cc, cc)

under_debt-made : (p q : PledgeValue) (x : ℕ) (sort : Sort) (pence : ℕ) (r : Result DebtValue DebtFault) (d : Done) → sort_answer sort (debt_of p) x pence ≡ r
    → under_debt p x sort pence r ≡ Changed q d → IsMade p x sort pence q d
under_debt-made p q x sort pence (Ok v) d is h =
    let a = sort_answer-ok sort (debt_of p) v x pence is in
    let made = changed-both (record p { entries = v.entries; standing = with_last p.standing x }) q (Done.Entered (new_entry p x sort pence)) d h in
    (ap (λ (w : PledgeValue). w.entries) made.0 ∙ ap (λ (w : DebtValue). w.entries) a.2, made.1)
under_debt-made p q x sort pence (Err fault) d is h = cc

entry-made : (p q : PledgeValue) (x : ℕ) (sort : Sort) (pence : ℕ) (d : Done) → entry_step p x sort pence ≡ Changed q d → IsMade p x sort pence q d
entry-made p q x Draw pence d h =
    let a = unless-changed (period_refusals p x) (under_debt p x Draw pence (draw_answer (debt_of p) x pence)) q d h in
    under_debt-made p q x Draw pence (draw_answer (debt_of p) x pence) d refl a.1
entry-made p q x Repay pence d h = under_debt-made p q x Repay pence (repay_answer (debt_of p) x pence) d refl h

none-some : {A : Type 0} {C : Type 0} (x : A) → Some x ≡ None → C
none-some x h = cc

-- a number that no entry has is above the numbers of all entries
not_found : (k : ℕ) (es : List Entry) (seq : ℕ) → AreNumbered k es → find (λ (e : Entry). e.seq == seq) es ≡ None → k ≤ seq → k + length es ≤ seq
not_found k [] seq numbered none low = omega (arith, low)
not_found k (e ∷ es) seq numbered none low =
    elim (e.seq == seq) as (λ v. e.seq == seq ≡ v → (if v then Some e else find (λ (e : Entry). e.seq == seq) es) ≡ None → k + length (e ∷ es) ≤ seq) [
      | true ↦ λ here some. none-some e some
      | false ↦ λ other rest.
          let is : e.seq ≡ k = numbered.0 in
          let apart : k ≢ seq = grind (arith, nat_tests, other, is) in
          let next : k + 1 ≤ seq = grind (arith, apart, low) in
          let past = not_found (k + 1) es seq numbered.1 rest next in
          omega (arith, past)
    ] refl none

-- an entry after others is found by its number
found_behind : (es : List Entry) (e : Entry) (more : List Entry) (seq : ℕ) → find (λ (e : Entry). e.seq == seq) es ≡ None → e.seq ≡ seq
    → find (λ (e : Entry). e.seq == seq) ((es ++ e ∷ []) ++ more) ≡ Some e
found_behind [] e more seq none is =
    let here : (e.seq == seq) ≡ true = grind (arith, nat_tests, is) in
    ap (λ v. if v then Some e else find (λ (e : Entry). e.seq == seq) more) here
found_behind (f ∷ es) e more seq none is =
    elim (f.seq == seq) as (λ v. (if v then Some f else find (λ (e : Entry). e.seq == seq) es) ≡ None
    → (if v then Some f else find (λ (e : Entry). e.seq == seq) ((es ++ e ∷ []) ++ more)) ≡ Some e) [
      | true ↦ λ some. none-some f some
      | false ↦ λ rest. found_behind es e more seq rest is
    ] none

same_sort-same : (sort : Sort) → same_sort sort sort ≡ true
same_sort-same Draw = refl
same_sort-same Repay = refl

-- an entry that was made under a number, and is still there, is answered again
numbered-again : (p next q : PledgeValue) (x y seq : ℕ) (sort : Sort) (pence : ℕ) (o : Option Entry) (d : Done) → AreNumbered 1 p.entries → entry_of p seq ≡ o
    → numbered_step p x seq sort pence o ≡ Changed next d → Grows next q → numbered_step q y seq sort pence (entry_of q seq) ≡ Answered d
numbered-again p next q x y seq sort pence (Some e) d numbered at h grows =
    let a = unless-changed ((not (is_repeat e sort pence), Refusal.SeqTaken) ∷ []) (Answered (Done.Entered e)) next d h in
    let never : Answered (Done.Entered e) ≡ Changed next d = a.1 in
    cc
numbered-again p next q x y seq sort pence None d numbered at h grows =
    let ahead = unless-changed ((is_ahead p seq, Refusal.SeqAhead) ∷ []) (unless (shared_refusals p x) (entry_step p x sort pence)) next d h in
    let barred = unless-changed (shared_refusals p x) (entry_step p x sort pence) next d ahead.1 in
    let made = entry-made p next x sort pence d barred.1 in
    let test : is_ahead p seq ≡ false = ahead.0.0 in
    let low : 1 ≤ seq = grind (arith, nat_tests, test) in
    let high : seq ≤ length p.entries + 1 = grind (arith, nat_tests, test) in
    let behind = not_found 1 p.entries seq numbered at low in
    let e = new_entry p x sort pence in
    let named : e.seq ≡ seq = omega (arith, behind, high) in
    let more = grows.entries.0 in
    let entries : q.entries ≡ (p.entries ++ e ∷ []) ++ more = grows.entries.1 ∙ ap (λ es. es ++ more) made.0 in
    let found : entry_of q seq ≡ Some e = ap (find (λ (e : Entry). e.seq == seq)) entries ∙ found_behind p.entries e more seq at named in
    let pence_same : (pence == pence) ≡ true = grind (arith, nat_tests) in
    let same : is_repeat e sort pence ≡ true = ap (λ v. v && (pence == pence)) (same_sort-same sort) ∙ pence_same in
    ap (numbered_step q y seq sort pence) found ∙ ap (λ v. unless ((not v, Refusal.SeqTaken) ∷ []) (Answered (Done.Entered e))) same ∙ ap Answered (sym made.1)

-- the same for any pledge whose lists have grown since
pub entered_again : (p next q : PledgeValue) (stamp again : Stamp) (sort : Sort) (seq pence : ℕ) (done : Done) → AreNumbered 1 p.entries
    → pledge_step p stamp (entry_command sort seq pence) ≡ Changed next done → Grows next q → pledge_step q again (entry_command sort seq pence) ≡ Answered done
entered_again p next q stamp again Draw seq pence done numbered step grows =
    numbered-again p next q stamp.day again.day seq Draw pence (entry_of p seq) done numbered refl step grows
entered_again p next q stamp again Repay seq pence done numbered step grows =
    numbered-again p next q stamp.day again.day seq Repay pence (entry_of p seq) done numbered refl step grows

pub entries_act_once : EntriesActOnce
entries_act_once p next stamp again sort seq pence done later h step =
    entered_again p next _ stamp again sort seq pence done h.entered.numbered step (lists_grow next later)

-- extensions
pub same_end_is_answered : SameEndIsAnswered
same_end_is_answered p stamp h =
    let x = stamp.day in
    let inside : nat_lt (end_of p) x ≡ false = grind (arith, nat_tests, h.1) in
    let here : (end_of p == end_of p) ≡ true = grind (arith, nat_tests) in
    unless-past (shared_refusals p x) _ h.0 ∙ unless-past (period_refusals p x) _ (inside, tt) ∙ rw here refl

pub extended-made : (p q : PledgeValue) (stamp : Stamp) (until : ℕ) (d : Done) → pledge_step p stamp (Command.Extend until) ≡ Changed q d
    → d ≡ Done.Extended until
extended-made p q stamp until d h =
    let x = stamp.day in
    let next : PledgeValue = with_extension p (record { day = x; until = until }) in
    let own : StepResult = unless (extend_refusals p until) (Changed next (Done.Extended until)) in
    let a = unless-changed (shared_refusals p x) _ q d h in
    let b = unless-changed (period_refusals p x) (if until == end_of p then Answered (Done.Extended until) else own) q d a.1 in
    let f = if-unanswered (until == end_of p) _ own q d b.1 in
    let e = unless-changed (extend_refusals p until) (Changed next (Done.Extended until)) q d f.1 in
    (changed-both next q (Done.Extended until) d e.1).1

pub extensions_act_once : ExtensionsActOnce
extensions_act_once p next stamp again until done later step stands may =
    let q = pledge_after_all next later in
    ap (λ n. pledge_step q again (Command.Extend n)) (sym stands) ∙ same_end_is_answered q again may ∙ ap (λ n. Answered (Done.Extended n)) stands
    ∙ ap Answered (sym (extended-made p next stamp until done step))
