-- The law of shards.
use Rattle.pawn_book.proofs.SlotRuns.{book_is_alone, equal_book_traces_answer_alike}
use Rattle.pawn_book.specs.Books.{Request}
use Rattle.pawn_book.specs.Common.{Stamp}
use Rattle.pawn_book.specs.Laws.{book_run}
use Rattle.pawn_book.specs.Shards.{HandedOutAnswersAsOne, HandsAll, ShardsAnswerAsOne, by_callers, handed, on_book}
use Rattle.pawn_book.specs.Shards.{taken}
use Rattle.pawn_book.specs.Traces.{book_trace}
use Rattle.std.proofs.Common.{◌≡◌, ℕ, List, [], ◌∷◌, ◌++◌, refl, ◌∙◌, ap, sym, arith, ◌≢◌, ◌==◌, Bool, true, false}
use Rattle.std.proofs.Common.{if◌then◌else◌, cond}
use Rattle.std.proofs.lemmas.Bool.Decides.{nat_tests}
use Rattle.std.specs.FinMap.{get}

-- the requests that a shard gets, if it is known whether the first goes to the shard and whether it is on the book
handed_first : (shard : ℕ → ℕ) (k b : ℕ) (a : Stamp × Request) (asked : List (Stamp × Request)) → shard b ≡ k
    → on_book b (handed shard k asked) ≡ on_book b asked → (v : Bool) → shard a.1.book == k ≡ v → (w : Bool) → a.1.book == b ≡ w
    → on_book b (cond v (a ∷ handed shard k asked) (handed shard k asked)) ≡ on_book b (a ∷ asked)
handed_first shard k b a asked is rest true mine w at = ap (λ l. by_callers b a ++ l) rest
handed_first shard k b a asked is rest false other true at =
    let same : a.1.book ≡ b = grind (arith, nat_tests, at) in
    let here : shard a.1.book ≡ k = ap shard same ∙ is in
    absurd (grind (arith, nat_tests, here, other))
handed_first shard k b a asked is rest false other false at =
    rest ∙ ap (λ v. (if v then (a.0, a.1.caller) ∷ [] else []) ++ on_book b asked) (sym at)

-- all requests on the book go to the book's shard
own : (shard : ℕ → ℕ) (k b : ℕ) (asked : List (Stamp × Request)) → shard b ≡ k → on_book b (handed shard k asked) ≡ on_book b asked
own shard k b [] is = refl
own shard k b (a ∷ asked) is = handed_first shard k b a asked is (own shard k b asked is) (shard a.1.book == k) refl (a.1.book == b) refl

handed_none : (shard : ℕ → ℕ) (k b : ℕ) (a : Stamp × Request) (asked : List (Stamp × Request)) → shard b ≢ k → on_book b (handed shard k asked) ≡ []
    → (v : Bool) → shard a.1.book == k ≡ v → (w : Bool) → a.1.book == b ≡ w → on_book b (cond v (a ∷ handed shard k asked) (handed shard k asked)) ≡ []
handed_none shard k b a asked is rest false other w at = rest
handed_none shard k b a asked is rest true mine true at =
    let same : a.1.book ≡ b = grind (arith, nat_tests, at) in
    let here : shard a.1.book ≡ k = grind (arith, nat_tests, mine) in
    absurd (is (sym (ap shard same) ∙ here))
handed_none shard k b a asked is rest true mine false at =
    ap (λ v. (if v then (a.0, a.1.caller) ∷ [] else []) ++ on_book b (handed shard k asked)) at ∙ rest

-- no request on another shard's book goes to the shard
others : (shard : ℕ → ℕ) (k b : ℕ) (asked : List (Stamp × Request)) → shard b ≢ k → on_book b (handed shard k asked) ≡ []
others shard k b [] is = refl
others shard k b (a ∷ asked) is = handed_none shard k b a asked is (others shard k b asked is) (shard a.1.book == k) refl (a.1.book == b) refl

pub hands_all : HandsAll
hands_all = record { own = own; others = others }

pub shards_answer_as_one : {F : Type 0} → ShardsAnswerAsOne F
shards_answer_as_one = record {
  replies = λ shard shards runs one all operator k stamp request mine alike settled other. equal_book_traces_answer_alike (shards k) one operator
      (runs k) all stamp request settled other alike.begins alike.settled;
  books = λ shard shards runs one all operator k b mine alike. sym (book_is_alone (shards k) operator b (runs k)) ∙ ap (λ book. book_run book operator b
      (book_trace b (shards k) operator (runs k))) alike.begins ∙ ap (book_run (get one.books b) operator b) alike.settled ∙ book_is_alone one operator b all;
}

pub handed_out_answers_as_one : (F : Type 0) → HandedOutAnswersAsOne F
handed_out_answers_as_one F shard shards one asked operator k stamp request mine begins there here settled other =
    equal_book_traces_answer_alike {F = F} (shards k) one operator (taken {F = F} (handed shard k asked))
    (taken {F = F} asked) stamp request settled other begins (there ∙ own shard k request.book asked mine ∙ sym here)
