-- Texts put one after the other.
use Rattle.pawn_book.specs.Visits.{End, Front, Whole}
use Rattle.pawn_writing.specs.Ends.{write_failed, written_bytes, end_by, PutFront, Written, Puts}
use Rattle.pawn_writing.specs.declared.writing.Writing.{Writing}
use Rattle.std.proofs.Common.{append-nil, eqb-true, take-append-drop, ◌<◌, ◌≤◌, ◌+◌, nat_eq, length, take, drop, get_or}
use Rattle.std.proofs.Common.{arith, ◌≡◌, ◌∙◌, ℕ, Bool, true, false, List, [], ◌∷◌, ◌++◌, Option, refl, sym, inl, inr}
use Rattle.std.proofs.Common.{ap, subst, append_assoc}
use Rattle.std.proofs.KnownBytes.{Appends-nil, Appends-trans}
use Rattle.std.proofs.lemmas.Bool.{cases_Bool}
use Rattle.std.proofs.lemmas.Bool.Decides.{nat_tests}
use Rattle.std.proofs.lemmas.Grind.{common_steps, flat_map-append}
use Rattle.std.proofs.lemmas.List.{take_more}
use Rattle.std.specs.Io.KnownBytes.{Appends}
use Rattle.std.specs.List.{flat_map}

-- a whole text, and then as much of another
put-then : {W : Type 0} (contents : W → Option (List ℕ)) (a b c : Writing W) (s t : List ℕ) (end : End)
    → Appends (written_bytes contents a) (written_bytes contents b) s → Written contents b t end c → Written contents a (s ++ t) end c
put-then contents a b c s t Whole first second = (Appends-trans _ _ _ s t first second.0, second.1)
put-then contents a b c s t Front first ((out, rest, whole, appends), failed) =
    ((s ++ out, rest, append_assoc s out rest ∙ ap (λ x. s ++ x) whole, Appends-trans _ _ _ s out first appends), failed)

-- a front of a text is a front of a longer one
pub front-more : {W : Type 0} (contents : W → Option (List ℕ)) (a b : Writing W) (s t : List ℕ) → PutFront contents a s b → PutFront contents a (s ++ t) b
front-more contents a b s t (out, rest, whole, appends) = (out, rest ++ t, sym (append_assoc out rest t) ∙ ap (λ x. x ++ t) whole, appends)

-- whether the writer has failed determines how much of the text was written
pub by_now : {W : Type 0} (contents : W → Option (List ℕ)) (a b : Writing W) (text : List ℕ) (failed : Bool) → write_failed b ≡ failed
    → Written contents a text (end_by failed) b → Written contents a text (end_by (write_failed b)) b
by_now contents a b text failed is written = subst (λ (v : Bool). Written contents a text (end_by v) b) (sym is) written

pub now_by : {W : Type 0} (contents : W → Option (List ℕ)) (a b : Writing W) (text : List ℕ) (failed : Bool) → write_failed b ≡ failed
    → Written contents a text (end_by (write_failed b)) b → Written contents a text (end_by failed) b
now_by contents a b text failed is written = subst (λ (v : Bool). Written contents a text (end_by v) b) is written

-- `send` to a writer that has not failed
pub puts_sent : {W : Type 0} (contents : W → Option (List ℕ)) (a b : Writing W) (bs : List ℕ) (n : ℕ) → write_failed a ≡ false → n ≤ length bs
    → Appends (written_bytes contents a) (written_bytes contents b) (take n bs) → (n ≡ length bs → write_failed b ≡ false)
    → (n < length bs → write_failed b ≡ true) → Puts contents a bs b
puts_sent contents a b bs n fine bound bytes done failed = record {
  failed = λ f. cc;
  fine = λ f. elim (cases_Bool (nat_eq n (length bs))) [
    | inl same ↦
        let all : n ≡ length bs = eqb-true n (length bs) same in
        let whole : take n bs ≡ bs = grind (arith, common_steps, all) in
        by_now contents a b bs false (done all) (rw whole at bytes, done all)
    | inr other ↦
        let less : n < length bs = grind (arith, nat_tests, bound, other) in
        by_now contents a b bs true (failed less) ((take n bs, drop n bs, take-append-drop n bs, bytes), failed less)
  ];
}

-- an empty text
pub puts_nil : {W : Type 0} (contents : W → Option (List ℕ)) (a : Writing W) → Puts contents a [] a
puts_nil contents a = record { failed = λ failed. refl; fine = λ fine. by_now contents a a [] false fine (Appends-nil _, fine) }

-- a text and then another
pub puts_then : {W : Type 0} {contents : W → Option (List ℕ)} {a b c : Writing W} {s t : List ℕ} → Puts contents a s b → Puts contents b t c
    → Puts contents a (s ++ t) c
puts_then {contents = contents} {a = a} {b = b} {c = c} {s = s} {t = t} first second = record {
  failed = λ failed. let same = first.failed failed in second.failed (ap write_failed same ∙ failed) ∙ same;
  fine = λ fine. elim (cases_Bool (write_failed b)) [
    | inl failed ↦
        let front = now_by contents a b s true failed (first.fine fine) in
        let same = second.failed failed in
        by_now contents a c (s ++ t) true (ap write_failed same ∙ failed)
        (subst (λ (x : Writing _). Written contents a (s ++ t) Front x) (sym same) (front-more contents a b s t front.0, failed))
    | inr going ↦
        let whole = now_by contents a b s false going (first.fine fine) in
        put-then contents a b c s t (end_by (write_failed c)) whole.0 (second.fine going)
  ];
}

-- one more of a list's texts
pub puts_more : {W X : Type 0} (contents : W → Option (List ℕ)) (a b c : Writing W) (f : X → List ℕ) (xs : List X) (i : ℕ) (d : X) → i < length xs
    → Puts contents a (flat_map f (take i xs)) b → Puts contents b (f (get_or xs i d)) c → Puts contents a (flat_map f (take (i + 1) xs)) c
puts_more contents a b c f xs i d lt first second =
    subst (λ (t : List ℕ). Puts contents a t c) (sym (ap (flat_map f) (take_more xs i d lt) ∙ flat_map-append f (take i xs) (get_or xs i d ∷ [])
    ∙ ap (λ (t : List ℕ). flat_map f (take i xs) ++ t) (append-nil (f (get_or xs i d))))) (puts_then first second)
