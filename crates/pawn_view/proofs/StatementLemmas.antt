-- A statement, put part by part.
use Rattle.pawn_debt.specs.declared.owing.Owing.{Owing}
use Rattle.pawn_view.proofs.SoundLemmas.{IsOpeningDecodable}
use Rattle.pawn_view.specs.Common.{BriefFields, End, Flow, Front, Handed, IsShare, KeepError, PledgeValue, PutFront}
use Rattle.pawn_view.specs.Common.{Puts, PutsLine, PutsShare, ViewFault, Whole, Writing, Written, brief_of, brief_owing}
use Rattle.pawn_view.specs.Common.{brief_status, call_end, debt_of, due, end_of, result_of_text, flat_map, owing_of}
use Rattle.pawn_view.specs.Common.{status_of, write_failed}
use Rattle.pawn_view.specs.Shown.{Shows, open_or_last, PutsElement}
use Rattle.pawn_view.specs.Text.{entry_line, extended_line, first_lines, shown_day, state_lines, state_on}
use Rattle.pawn_view.specs.Text.{statement_text}
use Rattle.pawn_view.specs.declared.statements.StatementLines.{StatementLines}
use Rattle.pawn_writing.proofs.PutLemmas.{front-more, now_by}
use Rattle.pawn_writing.proofs.ShareLemmas.{lines_share, share_all, share_puts, share_more, share_then}
use Rattle.pawn_writing.proofs.ShareLemmas.{writings_in_turn}
use Rattle.std.proofs.Common.{◌≡◌, ◌∙◌, ℕ, Bool, true, false, List, ◌++◌, Option, Some, None, Result, Ok, Err, refl}
use Rattle.std.proofs.Common.{sym, ap, subst, [], ◌∷◌, inl, inr, max, option_map, unwrap_or}

-- the lines of a brief above the extensions, and below them
abbrev pub brief_first : BriefFields → List ℕ
brief_first b = first_lines b.agreement b.ends

abbrev pub brief_state : BriefFields → ℕ → List ℕ
brief_state b day = state_lines (brief_status b day) (brief_owing b day) b.standing

first_of_brief : (p : PledgeValue) (b : BriefFields) → b ≡ brief_of p → brief_first b ≡ first_lines p.agreement (end_of p)
first_of_brief p b is = ap brief_first is

-- the day on which a brief is shown
abbrev pub brief_day : BriefFields → ℕ → ℕ
brief_day b day = max (open_or_last b.standing.closing b.standing.last day) b.totals.day

state_of_brief : (p : PledgeValue) (b : BriefFields) (v day : ℕ) → b ≡ brief_of p → IsOpeningDecodable p → v ≡ brief_day b day
    → brief_state b v ≡ state_on (shown_day p.standing.closing p.standing.last day) p
state_of_brief p b v day is told v_is =
    let day_is : v ≡ shown_day p.standing.closing p.standing.last day = v_is ∙ ap (λ (x : BriefFields). brief_day x day) is ∙ told.day day in
    let owed : brief_owing (brief_of p) v ≡ owing_of (due (debt_of p) v) =
    subst (λ (x : ℕ). brief_owing (brief_of p) x ≡ owing_of (due (debt_of p) x)) (sym day_is) (told.owing day) in
    ap (λ (x : BriefFields). brief_state x v) is ∙ ap (λ (o : Owing). state_lines (status_of p v) o p.standing) owed ∙ ap (λ (x : ℕ). state_on x p) day_is

-- elements passed to the visitor are passed to its writer
elements_handed : {W T : Type 0} (contents : W → Option (List ℕ)) (line : T → List ℕ) (v w : StatementLines W) (xs : List T) (flow : Flow)
    → Handed (PutsElement contents line) v xs flow w
    → Handed (PutsLine contents line) v.writer.now xs flow w.writer.now × (w.writer.ghost_name ≡ v.writer.ghost_name)
elements_handed contents line v w [] flow (goes, same) =
    ((goes, ap (λ (x : StatementLines _). x.writer.now) same), sym (ap (λ (x : StatementLines _). x.writer.ghost_name) same))
elements_handed contents line v w (x ∷ xs) flow handed = elim handed [
  | inl (u, first, rest) ↦ let more = elements_handed contents line u w xs flow rest in (inl (u.writer.now, first.puts, more.0), more.1 ∙ first.same_writer)
  | inr (stops, none, last) ↦ (inr (stops, none, last.puts), last.same_writer)
]

pub elements_writer : {W T : Type 0} (contents : W → Option (List ℕ)) (line : T → List ℕ) (v w : StatementLines W) (xs : List T) (flow : Flow)
    → Handed (PutsElement contents line) v xs flow w → w.writer.ghost_name ≡ v.writer.ghost_name
elements_writer contents line v w xs flow handed = (elements_handed contents line v w xs flow handed).1

-- what was put of the lines of a list of the pledge
pub elements_put : {W T : Type 0} (contents : W → Option (List ℕ)) (line : T → List ℕ) (v w : StatementLines W) (items : Option PledgeValue → List T)
    (o : Option PledgeValue) (p : PledgeValue) (given : List T) (flow : Flow) (end : End) → Handed (PutsElement contents line) v given flow w → o ≡ Some p
    → IsShare given flow end (items o) → PutsShare contents v.writer.now (flat_map line (items (Some p))) end w.writer.now
elements_put contents line v w items o p given flow end handed is share =
    lines_share contents line v.writer.now w.writer.now given (items (Some p)) flow end (elements_handed contents line v w given flow handed).0
    (subst (λ (x : Option PledgeValue). IsShare given flow end (items x)) is share)

-- a statement whose extensions were not all put
pub statement_cut : {W : Type 0} (contents : W → Option (List ℕ)) (a b c : Writing W) (day : ℕ) (p : PledgeValue) (brief : BriefFields) → brief ≡ brief_of p
    → Puts contents a (brief_first brief) b
    → PutsShare contents b (flat_map extended_line p.extensions) Front c → PutsShare contents a (statement_text day p) Front c
statement_cut contents a b c day p brief is first extended =
    let rest = state_on (shown_day p.standing.closing p.standing.last day) p ++ flat_map entry_line p.entries in
    share_then {s = first_lines p.agreement (end_of p)} {t = flat_map extended_line p.extensions ++ rest} writings_in_turn
    (share_puts writings_in_turn (subst (λ (t : List ℕ). Puts contents a t b) (first_of_brief p brief is) first)) (share_more writings_in_turn rest extended)

-- a statement whose parts were all put
pub statement_whole : {W : Type 0} (contents : W → Option (List ℕ)) (a b c d e : Writing W) (day v : ℕ) (p : PledgeValue) (brief : BriefFields) (end : End)
    → brief ≡ brief_of p → IsOpeningDecodable p → v ≡ brief_day brief day → Puts contents a (brief_first brief) b
    → PutsShare contents b (flat_map extended_line p.extensions) Whole c → Puts contents c (brief_state brief v) d
    → PutsShare contents d (flat_map entry_line p.entries) end e → PutsShare contents a (statement_text day p) end e
statement_whole contents a b c d e day v p brief end is told v_is first extensions state lines =
    let extended = flat_map extended_line p.extensions in
    let on = state_on (shown_day p.standing.closing p.standing.last day) p in
    let entries = flat_map entry_line p.entries in
    share_then {s = first_lines p.agreement (end_of p)} {t = extended ++ (on ++ entries)} writings_in_turn
    (share_puts writings_in_turn (subst (λ (t : List ℕ). Puts contents a t b) (first_of_brief p brief is) first))
    (share_then {s = extended} {t = on ++ entries} writings_in_turn extensions (share_then {s = on} {t = entries} writings_in_turn
    (share_puts writings_in_turn (subst (λ (t : List ℕ). Puts contents c t d) (state_of_brief p brief v day is told v_is) state)) lines))

-- ---- how a text ends

-- if the writer failed, a prefix of the text was written
ended_failed : {W : Type 0} (contents : W → Option (List ℕ)) (a w : Writing W) (text : List ℕ) (end : End) → write_failed a ≡ false → write_failed w ≡ true
    → PutsShare contents a text end w → Written contents a text Front w
ended_failed contents a w text end fine failed share =
    let front = now_by contents a w share.0 true failed (share.3.fine fine) in
    (subst (λ (t : List ℕ). PutFront contents a t w) share.2 (front-more contents a w share.0 share.1 front.0), failed)

ended_whole : {W : Type 0} (contents : W → Option (List ℕ)) (a w : Writing W) (text : List ℕ) → write_failed a ≡ false → write_failed w ≡ false
    → PutsShare contents a text Whole w → Written contents a text Whole w
ended_whole contents a w text fine going share =
    subst (λ (t : List ℕ). Written contents a t Whole w) (share_all share.2 (share.4 going refl)) (now_by contents a w share.0 false going (share.3.fine fine))

ended_cut : {W : Type 0} (contents : W → Option (List ℕ)) (a w : Writing W) (text : List ℕ) (end : End) → write_failed a ≡ false → write_failed w ≡ false
    → PutsShare contents a text end w → PutFront contents a text w × (write_failed w ≡ false)
ended_cut contents a w text end fine going share =
    let written = now_by contents a w share.0 false going (share.3.fine fine) in ((share.0, share.1, share.2, written.0), going)

shows_by : {W : Type 0} (contents : W → Option (List ℕ)) (a w : Writing W) (text : List ℕ) (done : Result (Unit {0}) KeepError) (failed : Bool)
    → write_failed a ≡ false → write_failed w ≡ failed → PutsShare contents a text (call_end done) w
    → Shows contents a (Some text) (result_of_text done failed) w
shows_by contents a w text done true fine now share = (text, refl, ended_failed contents a w text (call_end done) fine now share)
shows_by contents a w text (Ok u) false fine now share = (text, refl, ended_whole contents a w text fine now share)
shows_by contents a w text (Err KeepError.Memory) false fine now share = ended_cut contents a w text Front fine now share
shows_by contents a w text (Err (KeepError.Store why)) false fine now share = ended_cut contents a w text Front fine now share

-- after the text was written, the answer states how that ended
pub shows_ended : {W : Type 0} (contents : W → Option (List ℕ)) (a w : Writing W) (text : List ℕ) (done : Result (Unit {0}) KeepError)
    (answer : Result (Unit {0}) ViewFault)
    → write_failed a ≡ false → answer ≡ result_of_text done (write_failed w) → PutsShare contents a text (call_end done) w
    → Shows contents a (Some text) answer w
shows_ended contents a w text done answer fine is share =
    subst (λ (r : Result (Unit {0}) ViewFault). Shows contents a (Some text) r w) (sym is) (shows_by contents a w text done (write_failed w) fine refl share)

pub some_same : {A : Type 0} {a b : A} → Some a ≡ Some b → a ≡ b
some_same {a = a} e = ap (λ (o : Option _). unwrap_or o a) e

-- the same of the pledge that the brief is of
pub statement_shows : {W : Type 0} (contents : W → Option (List ℕ)) (a w : Writing W) (day : ℕ) (o : Option PledgeValue) (brief : BriefFields)
    (done : Result (Unit {0}) KeepError) (answer : Result (Unit {0}) ViewFault) → write_failed a ≡ false → answer ≡ result_of_text done (write_failed w)
    → Some brief ≡ option_map brief_of o → ((p : PledgeValue) → o ≡ Some p → brief ≡ brief_of p → PutsShare contents a (statement_text day p) (call_end done) w)
    → Shows contents a (option_map (statement_text day) o) answer w
statement_shows contents a w day None brief done answer fine is at share = cc
statement_shows contents a w day (Some p) brief done answer fine is at share =
    shows_ended contents a w (statement_text day p) done answer fine is (share p refl (some_same at))
