-- Texts that are put line by line, in as many calls as it takes.
use Rattle.pawn_book.specs.Visits.{End, Front, Handed, IsShare, Whole}
use Rattle.pawn_book.specs.declared.visit.Flow.{Flow}
use Rattle.pawn_book.specs.declared.visit.Flow.TheVariants.{Go, Stop}
use Rattle.pawn_writing.proofs.PutLemmas.{puts_nil, puts_then}
use Rattle.pawn_writing.specs.Ends.{write_failed, Puts, Share, PutsLine, PutsShare}
use Rattle.pawn_writing.specs.declared.writing.Writing.{Writing}
use Rattle.std.proofs.Common.{◌≡◌, ◌∙◌, ℕ, Bool, true, false, List, [], ◌∷◌, ◌++◌, Option, refl, sym, ap, subst, inl}
use Rattle.std.proofs.Common.{inr, append_assoc, if◌then◌else◌, append-nil}
use Rattle.std.proofs.lemmas.Bool.{cases_Bool}
use Rattle.std.proofs.lemmas.Grind.{flat_map-append}
use Rattle.std.specs.List.{flat_map}

-- the lines of the items that were passed were written
lines_put : {W T : Type 0} (contents : W → Option (List ℕ)) (line : T → List ℕ) (v w : Writing W) (xs : List T) (flow : Flow)
    → Handed (PutsLine contents line) v xs flow w → Puts contents v (flat_map line xs) w
lines_put contents line v w [] flow handed = subst (λ (u : Writing _). Puts contents v [] u) handed.1 (puts_nil contents v)
lines_put contents line v w (x ∷ xs) flow handed = elim handed [
  | inl going ↦ puts_then going.1.0 (lines_put contents line going.0 w xs flow going.2)
  | inr stopped ↦ subst (λ (ys : List _). Puts contents v (line x ++ flat_map line ys) w) (sym stopped.1)
      (subst (λ (t : List ℕ). Puts contents v t w) (sym (append-nil (line x))) stopped.2.0)
]

-- a writer that has not failed never stopped
never_stopped : {W T : Type 0} (contents : W → Option (List ℕ)) (line : T → List ℕ) (v w : Writing W) (xs : List T) (flow : Flow)
    → Handed (PutsLine contents line) v xs flow w → write_failed w ≡ false → flow ≡ Go
never_stopped contents line v w [] flow handed fine = handed.0
never_stopped contents line v w (x ∷ xs) flow handed fine = elim handed [
  | inl going ↦ never_stopped contents line going.0 w xs flow going.2 fine
  | inr stopped ↦ stopped.0 ∙ stopped.2.1 ∙ ap (λ (b : Bool). if b then Stop else Go) fine
]

-- which lines were written of a list whose items were passed to the visitor
pub lines_share : {W T : Type 0} (contents : W → Option (List ℕ)) (line : T → List ℕ) (v w : Writing W) (given items : List T) (flow : Flow) (end : End)
    → Handed (PutsLine contents line) v given flow w → IsShare given flow end items → PutsShare contents v (flat_map line items) end w
lines_share contents line v w given items flow end handed (left, whole, all) = (
  flat_map line given,
  flat_map line left,
  sym (flat_map-append line given left) ∙ ap (flat_map line) whole,
  lines_put contents line v w given flow handed,
  λ fine done. ap (flat_map line) (all (never_stopped contents line v w given flow handed fine) done),
)

-- ---- one text after another

-- what puts nothing once it has ended
pub record PutsInTurn {S : Type 0} (Puts : S → List ℕ → S → Type 0) (has_ended : S → Bool) : Type 0 where
  pub joined : (a b c : S) (s t : List ℕ) → Puts a s b → Puts b t c → Puts a (s ++ t) c
  pub ended : (a b : S) (s : List ℕ) → Puts a s b → has_ended a ≡ true → b ≡ a

pub writings_in_turn : {W : Type 0} {contents : W → Option (List ℕ)} → PutsInTurn (Puts contents) write_failed
writings_in_turn = record { joined = λ a b c s t first second. puts_then first second; ended = λ a b s puts. puts.failed }

-- a text that was put
pub share_puts : {S : Type 0} {Puts : S → List ℕ → S → Type 0} {has_ended : S → Bool} {a b : S} {s : List ℕ} → PutsInTurn Puts has_ended → Puts a s b
    → Share Puts has_ended a s Whole b
share_puts {s = s} turn puts = (s, [], append-nil s, puts, λ fine done. refl)

-- a text that was cut is also a prefix of a longer text
pub share_more : {S : Type 0} {Puts : S → List ℕ → S → Type 0} {has_ended : S → Bool} {a b : S} {s : List ℕ} → PutsInTurn Puts has_ended → (t : List ℕ)
    → Share Puts has_ended a s Front b → Share Puts has_ended a (s ++ t) Front b
share_more turn t (out, rest, whole, puts, all) = (out, rest ++ t, sym (append_assoc out rest t) ∙ ap (λ (x : List ℕ). x ++ t) whole, puts, λ fine done. cc)

-- all of a text is a front of it
pub share_front : {S : Type 0} {Puts : S → List ℕ → S → Type 0} {has_ended : S → Bool} {a b : S} {s : List ℕ} → PutsInTurn Puts has_ended
    → Share Puts has_ended a s Whole b → Share Puts has_ended a s Front b
share_front turn (out, rest, whole, puts, all) = (out, rest, whole, puts, λ fine done. cc)

-- what went out is all of the text, if nothing is left
pub share_all : {out rest text : List ℕ} → out ++ rest ≡ text → rest ≡ [] → out ≡ text
share_all {out = out} whole none = sym (append-nil out) ∙ ap (λ (x : List ℕ). out ++ x) (sym none) ∙ whole

-- a text and then another
pub share_then : {S : Type 0} {Puts : S → List ℕ → S → Type 0} {has_ended : S → Bool} {a b c : S} {s t : List ℕ} {end : End} → PutsInTurn Puts has_ended
    → Share Puts has_ended a s Whole b → Share Puts has_ended b t end c → Share Puts has_ended a (s ++ t) end c
share_then {Puts = Puts} {has_ended = has_ended} {a = a} {b = b} {c = c} {s = s} {t = t} turn (out, rest, whole, puts, all) (out', rest', whole', puts', all') =
    elim (cases_Bool (has_ended b)) [
      | inl ended ↦
          let same = turn.ended b c out' puts' ended in (
            out,
            rest ++ t,
            sym (append_assoc out rest t) ∙ ap (λ (x : List ℕ). x ++ t) whole,
            subst (λ (x : _). Puts a out x) (sym same) puts,
            λ fine done. cc,
          )
      | inr fine ↦ (
        s ++ out',
        rest',
        append_assoc s out' rest' ∙ ap (λ (x : List ℕ). s ++ x) whole',
        turn.joined a b c s out' (subst (λ (x : List ℕ). Puts a x b) (share_all whole (all fine refl)) puts) puts',
        all',
      )
    ]
