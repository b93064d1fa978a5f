-- What is found in the buffer holds for the stream.
use Rattle.pawn_host.specs.Common.{Consumes, Fault, HeadFacts, HeadFault, IsAtEnd, IsHeadRead, Keeps, Partial}
use Rattle.pawn_host.specs.Common.{ReadsHead, RequestHead, prepend_known, print_request}
use Rattle.pawn_host.specs.Finding.{FindsHead, FindsRest, HasHead, IsCausedBy}
use Rattle.pawn_host.specs.Split.{HasFault, IsCut}
use Rattle.pawn_host.specs.declared.session.Cause.{Cause}
use Rattle.pawn_host.specs.declared.session.Cause.TheVariants.{Read, Reads, Write}
use Rattle.pawn_host.specs.declared.session.Rest.TheVariants.{AtEnd, CutOff, Faulty}
use Rattle.pawn_wire.proofs.StreamLemmas.{bad_head_stays, reads_more}
use Rattle.pawn_wire.specs.declared.head.HeadRead.{HeadRead}
use Rattle.std.proofs.Common.{◌≡◌, ◌≢◌, ℕ, ◌+◌, ◌<◌, ◌≤◌, Bool, true, false, List, [], ◌∷◌, ◌++◌, length, inl, inr}
use Rattle.std.proofs.Common.{refl, arith, Option, Some, None, Ok, sym, ◌∙◌, ap, subst, append_assoc, append-nil}
use Rattle.std.proofs.Common.{length-append, IfSome, ◌==◌}
use Rattle.std.proofs.lemmas.Bool.Decides.{nat_tests}

-- the buffer grew by what was read
pub kept_more : (a b c : Option (List ℕ)) (old new piece : List ℕ) → Keeps a (prepend_known old b) → new ≡ old ++ piece → Consumes b c piece
    → Keeps a (prepend_known new c)
kept_more None b c old new piece k e r = tt
kept_more (Some x) None c old new piece k e r = absurd k
kept_more (Some x) (Some y) None old new piece k e r = absurd r
kept_more (Some x) (Some y) (Some z) old new piece k e r = ap (λ (l : List ℕ). l ++ z) e ∙ append_assoc old piece z ∙ ap (λ (l : List ℕ). old ++ l) (sym r) ∙ k

pub head_more : (old new piece : List ℕ) (f : HeadFacts) → HasHead old f → new ≡ old ++ piece → HasHead new f
head_more old new piece f has e =
    (has.0, has.1 ++ piece, subst (λ (s : List ℕ). ReadsHead s has.0 (has.1 ++ piece)) (sym e) (reads_more old piece has.0 has.1 has.2), has.3)

pub empty_by_test : (n : ℕ) (old new : List ℕ) → new ≡ old → n ≡ length new → (n == 0) ≡ true → old ≡ []
empty_by_test n [] new e len test = refl
empty_by_test n (b ∷ bs) new e len test = absurd (grind (arith, nat_tests, ap length e))

pub full_by_test : (n : ℕ) (old new : List ℕ) → new ≡ old → n ≡ length new → (n == 0) ≡ false → old ≡ [] → ⊥
full_by_test n old new e len test none_left = grind (arith, nat_tests, ap length e, ap length none_left)

pub answers_at : (shown buffer : List ℕ) (answer : HeadRead) → shown ≡ buffer → IsHeadRead shown answer → IsHeadRead buffer answer
answers_at shown buffer answer e h = subst (λ (b : List ℕ). IsHeadRead b answer) e h

-- ---- faults

pub fault_stays : (s more : List ℕ) (f : HeadFault) → HasFault s f → HasFault (s ++ more) f
fault_stays s more f (inl x) = inl (bad_head_stays s more x.0, x.1)
fault_stays s more f (inr x) = inr (x.0, x.1 ++ more, reads_more s more x.0 x.1 x.2, x.3)

pub found_faulty : (a b : Option (List ℕ)) (buffer : List ℕ) (f : HeadFault) → Keeps a (prepend_known buffer b) → IsHeadRead buffer (Fault f)
    → IfSome a (λ s. FindsRest s (Faulty f))
found_faulty None b buffer f k answers = tt
found_faulty (Some x) None buffer f k answers = absurd k
found_faulty (Some x) (Some y) buffer f k answers = subst (λ (s : List ℕ). HasFault s f) k (fault_stays buffer y f answers)

-- ---- the end

-- nothing is left to read
all_read : (x old : List ℕ) (b c : Option (List ℕ)) → Keeps (Some x) (prepend_known old b) → Keeps b c → IsAtEnd c → x ≡ old
all_read x old None c k kept end = absurd k
all_read x old (Some y) None k kept end = absurd kept
all_read x old (Some y) (Some z) k kept end = sym k ∙ ap (λ (l : List ℕ). old ++ l) (sym kept ∙ end) ∙ append-nil old

pub found_end : (a b c : Option (List ℕ)) (old : List ℕ) → Keeps a (prepend_known old b) → Keeps b c → IsAtEnd c → old ≡ [] → IfSome a (λ s. FindsRest s AtEnd)
found_end None b c old k kept end e = tt
found_end (Some x) b c old k kept end e = all_read x old b c k kept end ∙ e

pub found_cut : (a b c : Option (List ℕ)) (old : List ℕ) → Keeps a (prepend_known old b) → Keeps b c → IsAtEnd c → IsHeadRead old Partial → (old ≡ [] → ⊥)
    → IfSome a (λ s. FindsRest s CutOff)
found_cut None b c old k kept end answers e = tt
found_cut (Some x) b c old k kept end answers e =
    subst (λ (s : List ℕ). IsCut s) (sym (all_read x old b c k kept end)) (inl (e, answers.0, answers.1, answers.2))

rest_length : (s : List ℕ) (h : RequestHead) (rest : List ℕ) → ReadsHead s h rest → length s ≡ length (print_request h) + length rest
rest_length s h rest x = ap length x.0.1 ∙ length-append (print_request h) rest

pub found_short : (a b c : Option (List ℕ)) (old : List ℕ) (f : HeadFacts) → Keeps a (prepend_known old b) → Keeps b c → IsAtEnd c → HasHead old f
    → length old < f.len + f.body → IfSome a (λ s. FindsRest s CutOff)
found_short None b c old f k kept end has short = tt
found_short (Some x) b c old f k kept end has short =
    let len = rest_length old has.0 has.1 has.2 in
    let less : length has.1 < f.body = omega (arith, len, short, has.3.len) in
    subst (λ (s : List ℕ). IsCut s) (sym (all_read x old b c k kept end)) (inr (has.0, has.1, f.body, has.2, has.3.body, less))

pub found_request : (a b : Option (List ℕ)) (old : List ℕ) (f : HeadFacts) → Keeps a (prepend_known old b) → HasHead old f → f.len + f.body ≤ length old
    → IfSome a (λ s. FindsHead s (Ok f))
found_request None b old f k has fits = tt
found_request (Some x) None old f k has fits = absurd k
found_request (Some x) (Some y) old f k has fits =
    let len = rest_length old has.0 has.1 has.2 in
    let more : f.body ≤ length (has.1 ++ y) = omega (arith, length-append has.1 y, len, has.3.len, fits) in
    subst (λ (s : List ℕ). FindsHead s (Ok f)) k (has.0, has.1 ++ y, reads_more old y has.0 has.1 has.2, has.3, more)

-- the writer is never what ends a wait for a request
pub not_by_writer : (cause : Cause) (failed : Bool) (reads : ℕ) → IsCausedBy cause failed reads false → cause ≢ Write
not_by_writer Read failed reads by is = cc
not_by_writer Reads failed reads by is = cc
not_by_writer Write failed reads by is = cc
