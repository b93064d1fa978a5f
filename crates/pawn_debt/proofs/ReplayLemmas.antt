-- Entries that the rules accept in turn.
use Rattle.pawn_base.proofs.ListLemmas.{last_by-le}
use Rattle.pawn_base.proofs.RefusalLemmas.{first_of-accepts, first_of-is_ok, first_of-ok}
use Rattle.pawn_base.proofs.TestLemmas.{not_below, not_most}
use Rattle.pawn_debt.proofs.EntryLemmas.{due-extended}
use Rattle.pawn_debt.specs.Answers.{draw_refusals, repay_refusals, with_entry}
use Rattle.pawn_debt.specs.Due.{AreOrdered, DebtValue, Due, credit_of, due, last_of}
use Rattle.pawn_debt.specs.Limits.{most_entries}
use Rattle.pawn_debt.specs.Owing.{total_of}
use Rattle.pawn_debt.specs.Replay.{AreEntriesAccepted, IsEntryAccepted, sort_answer}
use Rattle.pawn_debt.specs.declared.entry.Entry.{Entry}
use Rattle.pawn_debt.specs.declared.entry.Sort.{Sort}
use Rattle.pawn_debt.specs.declared.entry.Sort.TheVariants.{Draw, Repay}
use Rattle.std.proofs.Common.{◌≡◌, ℕ, ◌+◌, ◌<◌, ◌≤◌, List, [], ◌∷◌, ◌++◌, take, drop, get_or, length, Ok, IsOk, sym, ap}
use Rattle.std.proofs.Common.{subst, ◌∙◌, arith, false, nat_lt, append-nil, append_assoc, take-append-drop}
use Rattle.std.proofs.lemmas.List.{drop_more, take_more}

-- an accepted entry is added at the end
pub sort_answer-ok : (s : Sort) (p v : DebtValue) (x pence : ℕ) → sort_answer s p x pence ≡ Ok v
    → (last_of p.taken p.entries ≤ x) × (length p.entries < most_entries) × (v ≡ with_entry p x s pence)
sort_answer-ok Draw p v x pence h =
    let a = first_of-ok (draw_refusals p x pence) (Ok (with_entry p x Draw pence)) v h in
    (not_below x (last_of p.taken p.entries) a.0.0, not_most most_entries (length p.entries) a.0.1.1.1.0, cc)
sort_answer-ok Repay p v x pence h =
    let a = first_of-ok (repay_refusals p x pence) (Ok (with_entry p x Repay pence)) v h in
    (not_below x (last_of p.taken p.entries) a.0.0, not_most most_entries (length p.entries) a.0.1.1.0, cc)

-- entries that are accepted in turn, and then one more
pub AreAccepted-push : (d : DebtValue) (prior es : List Entry) (e : Entry) → AreEntriesAccepted d prior es
    → IsEntryAccepted (record d { entries = prior ++ es }) e → AreEntriesAccepted d prior (es ++ e ∷ [])
AreAccepted-push d prior [] e h last =
    let P : List Entry → Type 0 = λ l. IsEntryAccepted (record d { entries = l }) e in
    (subst P (append-nil prior) last, tt)
AreAccepted-push d prior (f ∷ es) e h last =
    let P : List Entry → Type 0 = λ l. IsEntryAccepted (record d { entries = l }) e in
    (h.0, AreAccepted-push d (prior ++ f ∷ []) es e h.1 (subst P (sym (append_assoc prior (f ∷ []) es)) last))

-- of entries that are accepted in turn, each is accepted after those before it
pub AreAccepted-next : (d : DebtValue) (prior es : List Entry) (e : Entry) (rest : List Entry) → AreEntriesAccepted d prior (es ++ e ∷ rest)
    → IsEntryAccepted (record d { entries = prior ++ es }) e
AreAccepted-next d prior [] e rest h =
    let P : List Entry → Type 0 = λ l. IsEntryAccepted (record d { entries = l }) e in
    subst P (sym (append-nil prior)) h.0
AreAccepted-next d prior (f ∷ es) e rest h =
    let P : List Entry → Type 0 = λ l. IsEntryAccepted (record d { entries = l }) e in
    subst P (append_assoc prior (f ∷ []) es) (AreAccepted-next d (prior ++ f ∷ []) es e rest h.1)

split : (es : List Entry) (i : ℕ) (x : Entry) → i < length es → take i es ++ get_or es i x ∷ drop (i + 1) es ≡ es
split es i x lt = ap (λ (l : List Entry). take i es ++ l) (sym (drop_more es i x lt)) ∙ take-append-drop i es

-- if an entry is refused after those before it, the list is not accepted in turn
pub AreAccepted-not : (d : DebtValue) (es : List Entry) (i : ℕ) (x : Entry) → i < length es
    → (IsEntryAccepted (record d { entries = take i es }) (get_or es i x) → ⊥) → AreEntriesAccepted d [] es → ⊥
AreAccepted-not d es i x lt refused h =
    let P : List Entry → Type 0 = λ l. AreEntriesAccepted d [] l in
    refused (AreAccepted-next d [] (take i es) (get_or es i x) (drop (i + 1) es) (subst P (sym (split es i x lt)) h))

-- the first i entries with the entry that was read at i are the first i + 1 entries
pub taken-more : (es : List Entry) (i : ℕ) (e : Entry) → i < length es → e ≡ get_or es i e → take i es ++ e ∷ [] ≡ take (i + 1) es
taken-more es i e lt is = ap (λ (x : Entry). take i es ++ x ∷ []) is ∙ sym (take_more es i e lt)

pub accepted-more : (d : DebtValue) (es : List Entry) (i : ℕ) (e : Entry) → i < length es → e ≡ get_or es i e → AreEntriesAccepted d [] (take i es)
    → IsEntryAccepted (record d { entries = take i es }) e → AreEntriesAccepted d [] (take (i + 1) es)
accepted-more d es i e lt is h last =
    let P : List Entry → Type 0 = λ l. AreEntriesAccepted d [] l in
    subst P (taken-more es i e lt is) (AreAccepted-push d [] (take i es) e h last)

pub accepted-not : (d : DebtValue) (es : List Entry) (i : ℕ) (e : Entry) → i < length es → e ≡ get_or es i e
    → (IsEntryAccepted (record d { entries = take i es }) e → ⊥) → AreEntriesAccepted d [] es → ⊥
accepted-not d es i e lt is refused h =
    let P : Entry → Type 0 = λ x. (IsEntryAccepted (record d { entries = take i es }) x → ⊥) in
    AreAccepted-not d es i e lt (subst P is refused) h

-- a later end changes no answer on a day that is not after the old end
sort_answer-ended : (s : Sort) (d : DebtValue) (ends x pence : ℕ) → due (record d { ends = ends }) x ≡ due d x → IsOk (sort_answer s d x pence)
    → IsOk (sort_answer s (record d { ends = ends }) x pence)
sort_answer-ended Draw d ends x pence same h =
    let p : DebtValue = record d { ends = ends } in
    let a = (first_of-is_ok (draw_refusals d x pence) (Ok (with_entry d x Draw pence)) h).0 in
    let e : nat_lt (credit_of d.kind) ((due p x).principal + pence) ≡ false = ap (λ (o : Due). nat_lt (credit_of d.kind) (o.principal + pence)) same
    ∙ a.1.1.1.1.0 in
    first_of-accepts (draw_refusals p x pence) (with_entry p x Draw pence) (a.0, (a.1.0, (a.1.1.0, (a.1.1.1.0, (e, tt)))))
sort_answer-ended Repay d ends x pence same h =
    let p : DebtValue = record d { ends = ends } in
    let a = (first_of-is_ok (repay_refusals d x pence) (Ok (with_entry d x Repay pence)) h).0 in
    let e : nat_lt (total_of (due p x)) pence ≡ false = ap (λ (o : Due). nat_lt (total_of o) pence) same ∙ a.1.1.1.0 in
    first_of-accepts (repay_refusals p x pence) (with_entry p x Repay pence) (a.0, (a.1.0, (a.1.1.0, (e, tt))))

IsAccepted-ended : (d : DebtValue) (ends : ℕ) (e : Entry) → d.ends ≤ ends → d.taken ≤ e.day → e.day ≤ d.ends → IsEntryAccepted d e
    → IsEntryAccepted (record d { ends = ends }) e
IsAccepted-ended d ends e later low high h = (h.0, sort_answer-ended e.sort d ends e.day e.pence (due-extended d ends e.day later high low) h.1)

-- each entry's day is from the day taken to the end
abbrev pub AreInside : DebtValue → List Entry → Type 0
AreInside d [] = Unit {0}
AreInside d (e ∷ es) = ((d.taken ≤ e.day) × (e.day ≤ d.ends)) × AreInside d es

-- with a later end the entries are still accepted
pub AreAccepted-ended : (d : DebtValue) (ends : ℕ) (prior es : List Entry) → d.ends ≤ ends → AreInside d es → AreEntriesAccepted d prior es
    → AreEntriesAccepted (record d { ends = ends }) prior es
AreAccepted-ended d ends prior [] later days h = tt
AreAccepted-ended d ends prior (e ∷ es) later days h = (
  IsAccepted-ended (record d { entries = prior }) ends e later days.0.0 days.0.1 h.0,
  AreAccepted-ended d ends (prior ++ e ∷ []) es later days.1 h.1,
)

-- the days of entries lie between the first and the last
pub AreInside-ordered : (d : DebtValue) (day : ℕ) (es : List Entry) → d.taken ≤ day → AreOrdered day es → last_of day es ≤ d.ends → AreInside d es
AreInside-ordered d day [] after h before = tt
AreInside-ordered d day (e ∷ es) after h before = (
  (omega (arith, after, h.0), omega (arith, last_by-le (λ (e : Entry). e.day) e.day es h.1, before)),
  AreInside-ordered d e.day es (omega (arith, after, h.0)) h.1 before,
)
