-- What is shown for receipts, one after the other.
use Rattle.pawn_book.proofs.Sounds.{has_terms}
use Rattle.pawn_book.proofs.VisitLemmas.{cut_at}
use Rattle.pawn_view.proofs.StatementLemmas.{some_same, shows_ended}
use Rattle.pawn_view.specs.Common.{BriefFields, End, Front, HasTermsOf, Host, IsSound, KeepError, PledgeValue, Puts}
use Rattle.pawn_view.specs.Common.{PutsShare, Receipt, ViewFault, Whole, Writing, are_unknown, brief_of, call_end}
use Rattle.pawn_view.specs.Common.{result_of_text, get, is_live, live_at, only_live, pledge_in, write_failed}
use Rattle.pawn_view.specs.Shown.{Shows, shown_of}
use Rattle.pawn_view.specs.Text.{further_texts, presented_text, shown_text, statement_text}
use Rattle.pawn_writing.proofs.ShareLemmas.{share_puts, share_more, share_then, writings_in_turn}
use Rattle.std.proofs.Common.{◌≡◌, ◌∙◌, ℕ, zero, suc, ◌+◌, ◌-◌, ◌<◌, ◌≤◌, arith, Bool, true, false, List, [], ◌∷◌, ◌++◌}
use Rattle.std.proofs.Common.{length, take, drop, get_or, map, Option, Some, None, codes, refl, sym, ap, subst}
use Rattle.std.proofs.Common.{if◌then◌else◌, Result, not, option_map, append-nil}
use Rattle.std.proofs.lemmas.Grind.{flat_map-append}
use Rattle.std.proofs.lemmas.List.{take_more, take_rest, map-append}

-- ---- whether one of them is live

-- one is live
any_known_in : (f : Receipt → Option PledgeValue) (receipts : List Receipt) (i : ℕ) (d : Receipt) (brief : BriefFields) → i < length receipts
    → Some brief ≡ option_map brief_of (f (get_or receipts i d)) → are_unknown (map f receipts) ≡ false
any_known_in f [] i d brief lt is = absurd (omega (arith, lt))
any_known_in f (r ∷ rs) zero d brief lt is =
    elim (f r) as (λ (o : Option PledgeValue). Some brief ≡ option_map brief_of o → are_unknown (o ∷ map f rs) ≡ false) [
      | None ↦ λ said. cc
      | Some p ↦ λ said. refl
    ] is
any_known_in f (r ∷ rs) (suc i) d brief lt is =
    elim (f r) as (λ (o : Option PledgeValue). are_unknown (o ∷ map f rs) ≡ false) [
      | None ↦ any_known_in f rs i d brief (omega (arith, lt)) is
      | Some p ↦ refl
    ]

pub any_known : (f : Receipt → Option PledgeValue) (receipts : List Receipt) (i : ℕ) (x : Receipt) (brief : BriefFields) → i < length receipts
    → x ≡ get_or receipts i x → Some brief ≡ option_map brief_of (f x) → are_unknown (map f receipts) ≡ false
any_known f receipts i x brief lt at is = any_known_in f receipts i x brief lt (subst (λ (y : Receipt). Some brief ≡ option_map brief_of (f y)) at is)

unknown-snoc : (f : Receipt → Option PledgeValue) (rs : List Receipt) (r : Receipt) → are_unknown (map f rs) ≡ true → f r ≡ None
    → are_unknown (map f (rs ++ r ∷ [])) ≡ true
unknown-snoc f [] r before is = ap (λ (o : Option PledgeValue). are_unknown (o ∷ [])) is
unknown-snoc f (q ∷ rs) r before is =
    elim (f q) as (λ (o : Option PledgeValue). are_unknown (o ∷ map f rs) ≡ true → are_unknown (o ∷ map f (rs ++ r ∷ [])) ≡ true) [
      | None ↦ λ b. unknown-snoc f rs r b is
      | Some p ↦ λ b. cc
    ] before

none_of : (o : Option PledgeValue) → None ≡ option_map brief_of o → o ≡ None
none_of None e = refl
none_of (Some p) e = cc

-- one more is not live
pub unknown_more : (f : Receipt → Option PledgeValue) (receipts : List Receipt) (i : ℕ) (x : Receipt) → i < length receipts → x ≡ get_or receipts i x
    → are_unknown (map f (take i receipts)) ≡ true → None ≡ option_map brief_of (f x) → are_unknown (map f (take (i + 1) receipts)) ≡ true
unknown_more f receipts i x lt at before is = subst (λ (rs : List Receipt). are_unknown (map f rs) ≡ true) (sym (take_more receipts i x lt))
    (unknown-snoc f (take i receipts) (get_or receipts i x) before (ap f (sym at) ∙ none_of (f x) is))

-- the terms in the brief of a live receipt's pledge are those of its book
pub live_terms : (h : Host) (b : ℕ) (r : Receipt) (brief : BriefFields) → IsSound h → Some brief ≡ option_map brief_of (live_at (pledge_in (get h.books b)) r)
    → HasTermsOf (get h.books b) brief
live_terms h b r brief sound is =
    elim (pledge_in (get h.books b) r.number) as (λ (o : Option PledgeValue). pledge_in (get h.books b) r.number ≡ o
    → Some brief ≡ option_map brief_of (only_live r.secret o) → HasTermsOf (get h.books b) brief) [
      | None ↦ λ at said. cc
      | Some p ↦ λ at said.
          elim (is_live r.secret p) as (λ (v : Bool). Some brief ≡ option_map brief_of (if v then Some p else None) → HasTermsOf (get h.books b) brief) [
            | true ↦ λ e. subst (HasTermsOf (get h.books b)) (sym (some_same e)) (has_terms h b r.number p sound at)
            | false ↦ λ e. cc
          ] said
    ] refl is

-- ---- one receipt

-- the statement of the pledge that a live receipt is of
pub shown_statement : {W : Type 0} (contents : W → Option (List ℕ)) (a w : Writing W) (day : ℕ) (pledges : ℕ → Option PledgeValue) (r : Receipt)
    (brief : BriefFields) (end : End) → Some brief ≡ option_map brief_of (live_at pledges r) → ((p : PledgeValue) → pledges r.number ≡ Some p
    → brief ≡ brief_of p → PutsShare contents a (statement_text day p) end w) → PutsShare contents a (shown_text day (live_at pledges r)) end w
shown_statement contents a w day pledges r brief end is share =
    elim (pledges r.number) as (λ (o : Option PledgeValue). pledges r.number ≡ o → Some brief ≡ option_map brief_of (only_live r.secret o)
    → PutsShare contents a (shown_text day (only_live r.secret o)) end w) [
      | None ↦ λ at said. cc
      | Some p ↦ λ at said.
          elim (is_live r.secret p) as (λ (b : Bool). Some brief ≡ option_map brief_of (if b then Some p else None)
          → PutsShare contents a (shown_text day (if b then Some p else None)) end w) [
            | true ↦ λ e. share p at (some_same e)
            | false ↦ λ e. cc
          ] said
    ] refl is

-- ---- several

-- a blank line, and what is shown
abbrev pub further : ℕ → Option PledgeValue → List ℕ
further day p = codes "\n" ++ shown_text day p

further_cut : (f : Receipt → Option PledgeValue) (day : ℕ) (receipts : List Receipt) (i : ℕ) (d : Receipt) → i < length receipts → further_texts day (map f
    receipts) ≡ further_texts day (map f (take i receipts)) ++ (further day (f (get_or receipts i d)) ++ further_texts day (map f (drop (i + 1) receipts)))
further_cut f day receipts i d lt = ap (λ (rs : List Receipt). further_texts day (map f rs)) (sym (cut_at receipts i d lt))
    ∙ ap (further_texts day) (map-append f (take i receipts) (get_or receipts i d ∷ drop (i + 1) receipts))
    ∙ flat_map-append (further day) (map f (take i receipts)) (f (get_or receipts i d) ∷ map f (drop (i + 1) receipts))

further_more : (f : Receipt → Option PledgeValue) (day : ℕ) (receipts : List Receipt) (i : ℕ) (d : Receipt) → i < length receipts
    → further_texts day (map f (take (i + 1) receipts)) ≡ further_texts day (map f (take i receipts)) ++ further day (f (get_or receipts i d))
further_more f day receipts i d lt = ap (λ (rs : List Receipt). further_texts day (map f rs)) (take_more receipts i d lt) ∙ ap (further_texts day)
    (map-append f (take i receipts) (get_or receipts i d ∷ [])) ∙ flat_map-append (further day) (map f (take i receipts)) (f (get_or receipts i d) ∷ [])
    ∙ ap (λ (t : List ℕ). further_texts day (map f (take i receipts)) ++ t) (append-nil (further day (f (get_or receipts i d))))

-- one receipt more after those before it
further_shown : {W : Type 0} (contents : W → Option (List ℕ)) (a b c w : Writing W) (day : ℕ) (before : List ℕ) (p : Option PledgeValue) (end : End)
    → PutsShare contents a before Whole b → Puts contents b (codes "\n") c → PutsShare contents c (shown_text day p) end w
    → PutsShare contents a (before ++ further day p) end w
further_shown contents a b c w day before p end first blank share = share_then {s = before} {t = further day p} writings_in_turn first
    (share_then {s = codes "\n"} {t = shown_text day p} writings_in_turn (share_puts writings_in_turn blank) share)

further_goes_on_in : {W : Type 0} (contents : W → Option (List ℕ)) (a b c w : Writing W) (day : ℕ) (f : Receipt → Option PledgeValue) (receipts : List Receipt)
    (i : ℕ) (d : Receipt) → i < length receipts → PutsShare contents a (further_texts day (map f (take i receipts))) Whole b → Puts contents b (codes "\n") c
    → PutsShare contents c (shown_text day (f (get_or receipts i d))) Whole w → PutsShare contents a (further_texts day (map f (take (i + 1) receipts))) Whole w
further_goes_on_in contents a b c w day f receipts i d lt first blank share =
    subst (λ (t : List ℕ). PutsShare contents a t Whole w) (sym (further_more f day receipts i d lt))
    (further_shown contents a b c w day (further_texts day (map f (take i receipts))) (f (get_or receipts i d)) Whole first blank share)

further_stops_in : {W : Type 0} (contents : W → Option (List ℕ)) (a b c w : Writing W) (day : ℕ) (f : Receipt → Option PledgeValue) (receipts : List Receipt)
    (i : ℕ) (d : Receipt) → i < length receipts → PutsShare contents a (further_texts day (map f (take i receipts))) Whole b → Puts contents b (codes "\n") c
    → PutsShare contents c (shown_text day (f (get_or receipts i d))) Front w → PutsShare contents a (further_texts day (map f receipts)) Front w
further_stops_in contents a b c w day f receipts i d lt first blank share =
    let x = get_or receipts i d in
    let rest = further_texts day (map f (drop (i + 1) receipts)) in
    subst (λ (t : List ℕ). PutsShare contents a t Front w) (sym (further_cut f day receipts i d lt))
    (share_then {s = further_texts day (map f (take i receipts))} {t = further day (f x) ++ rest} writings_in_turn first (share_more {s = further day (f x)}
    writings_in_turn rest (share_then {s = codes "\n"} {t = shown_text day (f x)} writings_in_turn (share_puts writings_in_turn blank) share)))

-- all but the first
abbrev pub rest_of : List Receipt → List Receipt
rest_of receipts = take (length receipts - 1) (drop 1 receipts)

-- the first, and then the rest
pub first_and_rest : (f : Receipt → Option PledgeValue) (receipts : List Receipt) (x : Receipt) → 1 ≤ length receipts → x ≡ get_or receipts 0 x
    → f x ∷ map f (rest_of receipts) ≡ map f receipts
first_and_rest f [] x some at = absurd (omega (arith, some))
first_and_rest f (r ∷ rs) x some at =
    ap (λ (q : Receipt). f q ∷ map f (rest_of (r ∷ rs))) at ∙ ap (λ (qs : List Receipt). f r ∷ map f qs) (take_rest (r ∷ rs) 1)

-- a statement, and what is shown for others
pub statement_then : {W : Type 0} (contents : W → Option (List ℕ)) (a b w : Writing W) (day : ℕ) (p : PledgeValue) (others : List (Option PledgeValue))
    (end : End) → PutsShare contents a (statement_text day p) Whole b → PutsShare contents b (further_texts day others) end w
    → PutsShare contents a (statement_text day p ++ further_texts day others) end w
statement_then contents a b w day p others end first rest = share_then {s = statement_text day p} {t = further_texts day others} writings_in_turn first rest

-- a statement that was not put whole
pub statement_stops : {W : Type 0} (contents : W → Option (List ℕ)) (a w : Writing W) (day : ℕ) (p : PledgeValue) (others : List (Option PledgeValue))
    → PutsShare contents a (statement_text day p) Front w → PutsShare contents a (statement_text day p ++ further_texts day others) Front w
statement_stops contents a w day p others first = share_more {s = statement_text day p} writings_in_turn (further_texts day others) first

-- the text where the first is live
pub live_first_shows : {W : Type 0} (contents : W → Option (List ℕ)) (a w : Writing W) (day : ℕ) (pledges : ℕ → Option PledgeValue) (r : Receipt)
    (others : List (Option PledgeValue)) (brief : BriefFields) (done : Result (Unit {0}) KeepError) (answer : Result (Unit {0}) ViewFault)
    → write_failed a ≡ false → answer ≡ result_of_text done (write_failed w) → Some brief ≡ option_map brief_of (live_at pledges r) → ((p : PledgeValue)
    → pledges r.number ≡ Some p → brief ≡ brief_of p → PutsShare contents a (statement_text day p ++ further_texts day others) (call_end done) w)
    → Shows contents a (shown_of day (live_at pledges r ∷ others)) answer w
live_first_shows contents a w day pledges r others brief done answer fine is live share =
    elim (pledges r.number) as (λ (o : Option PledgeValue). pledges r.number ≡ o → Some brief ≡ option_map brief_of (only_live r.secret o)
    → Shows contents a (shown_of day (only_live r.secret o ∷ others)) answer w) [
      | None ↦ λ at said. cc
      | Some p ↦ λ at said.
          elim (is_live r.secret p) as (λ (b : Bool). Some brief ≡ option_map brief_of (if b then Some p else None)
          → Shows contents a (shown_of day ((if b then Some p else None) ∷ others)) answer w) [
            | true ↦ λ e. shows_ended contents a w (statement_text day p ++ further_texts day others) done answer fine is (share p at (some_same e))
            | false ↦ λ e. cc
          ] said
    ] refl live

-- the text where the first is not live, and another is
pub dead_first_shows : {W : Type 0} (contents : W → Option (List ℕ)) (a b w : Writing W) (day : ℕ) (others : List (Option PledgeValue)) (unknown : Bool)
    (done : Result (Unit {0}) KeepError) (answer : Result (Unit {0}) ViewFault) → write_failed a ≡ false → answer ≡ result_of_text done (write_failed w)
    → true ≡ not unknown → Puts contents a (codes "Unknown receipt\n") b → PutsShare contents b (further_texts day others) (call_end done) w
    → Shows contents a (if unknown then None else Some (presented_text day (None ∷ others))) answer w
dead_first_shows contents a b w day others true done answer fine is known line share = cc
dead_first_shows contents a b w day others false done answer fine is known line share =
    shows_ended contents a w (presented_text day (None ∷ others)) done answer fine is
    (share_then {s = codes "Unknown receipt\n"} {t = further_texts day others} writings_in_turn (share_puts writings_in_turn line) share)

-- the same, if the keeper returned no brief for the first receipt
pub dead_first : {W : Type 0} (contents : W → Option (List ℕ)) (a w : Writing W) (day : ℕ) (p : Option PledgeValue) (others : List (Option PledgeValue))
    (answer : Result (Unit {0}) ViewFault)
    → None ≡ option_map brief_of p → Shows contents a (shown_of day (None ∷ others)) answer w → Shows contents a (shown_of day (p ∷ others)) answer w
dead_first contents a w day p others answer is shows =
    subst (λ (o : Option PledgeValue). Shows contents a (shown_of day (o ∷ others)) answer w) (sym (none_of p is)) shows

-- what holds for the first receipt and the rest holds for all receipts
pub shows_all : {W : Type 0} (contents : W → Option (List ℕ)) (a w : Writing W) (day : ℕ) (f : Receipt → Option PledgeValue) (receipts : List Receipt)
    (x : Receipt) (answer : Result (Unit {0}) ViewFault) → 1 ≤ length receipts → x ≡ get_or receipts 0 x
    → Shows contents a (shown_of day (f x ∷ map f (rest_of receipts))) answer w → Shows contents a (shown_of day (map f receipts)) answer w
shows_all contents a w day f receipts x answer some at shows =
    subst (λ (ps : List (Option PledgeValue)). Shows contents a (shown_of day ps) answer w) (first_and_rest f receipts x some at) shows

pub further_goes_on : {W : Type 0} (contents : W → Option (List ℕ)) (a b c w : Writing W) (day : ℕ) (f : Receipt → Option PledgeValue) (receipts : List Receipt)
    (i : ℕ) (x : Receipt) → i < length receipts → x ≡ get_or receipts i x → PutsShare contents a (further_texts day (map f (take i receipts))) Whole b
    → Puts contents b (codes "\n") c → PutsShare contents c (shown_text day (f x)) Whole w
    → PutsShare contents a (further_texts day (map f (take (i + 1) receipts))) Whole w
further_goes_on contents a b c w day f receipts i x lt at first blank share = further_goes_on_in contents a b c w day f receipts i x lt first blank
    (subst (λ (y : Receipt). PutsShare contents c (shown_text day (f y)) Whole w) at share)

pub further_stops : {W : Type 0} (contents : W → Option (List ℕ)) (a b c w : Writing W) (day : ℕ) (f : Receipt → Option PledgeValue) (receipts : List Receipt)
    (i : ℕ) (x : Receipt) → i < length receipts → x ≡ get_or receipts i x → PutsShare contents a (further_texts day (map f (take i receipts))) Whole b
    → Puts contents b (codes "\n") c → PutsShare contents c (shown_text day (f x)) Front w → PutsShare contents a (further_texts day (map f receipts)) Front w
further_stops contents a b c w day f receipts i x lt at first blank share =
    further_stops_in contents a b c w day f receipts i x lt first blank (subst (λ (y : Receipt). PutsShare contents c (shown_text day (f y)) Front w) at share)
