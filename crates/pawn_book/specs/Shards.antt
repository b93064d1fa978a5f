-- Shards: the requests on a book go to one of several hosts. Each settled reply is that of a single host that gets all
-- requests.
use Rattle.pawn_book.specs.Common.{Stamp, filter, flat_map}
use Rattle.pawn_book.specs.HostStep.{Host}
use Rattle.pawn_book.specs.Runs.{Event, read_as, run_host, is_settled}
use Rattle.pawn_book.specs.Slots.{reply_after}
use Rattle.pawn_book.specs.Traces.{book_trace}
use Rattle.pawn_book.specs.declared.request.Caller.{Caller}
use Rattle.pawn_book.specs.declared.request.Request.{Request}
use Rattle.std.specs.FinMap.{get}
use Rattle.std.specs.Prelude.{◌≡◌, ◌≢◌, ℕ, List, [], ◌∷◌, ◌==◌, true, Ok, if◌then◌else◌, map}

-- the requests that shard k gets: those on its books, in order, with their stamps
abbrev pub handed : (ℕ → ℕ) → ℕ → List (Stamp × Request) → List (Stamp × Request)
handed shard k asked = filter (λ a. shard a.1.book == k) asked

-- the request, if it is on book b
abbrev pub by_callers : ℕ → Stamp × Request → List (Stamp × Caller)
by_callers b a = if a.1.book == b then (a.0, a.1.caller) ∷ [] else []

-- the requests on book b, in order
abbrev pub on_book : ℕ → List (Stamp × Request) → List (Stamp × Caller)
on_book b asked = flat_map (by_callers b) asked

-- a shard gets all requests on each of its books, and none on other books
pub record HandsAll : Type 0 where
  pub own : (shard : ℕ → ℕ) (k b : ℕ) (asked : List (Stamp × Request)) → shard b ≡ k → on_book b (handed shard k asked) ≡ on_book b asked
  pub others : (shard : ℕ → ℕ) (k b : ℕ) (asked : List (Stamp × Request)) → shard b ≢ k → on_book b (handed shard k asked) ≡ []

-- the book is the same in both hosts at the start, and the same of its requests were settled in both
pub record IsAskedAlike {F : Type 0} (b operator : ℕ) (h g : Host) (before others : List (Event F)) : Type 0 where
  pub begins : get h.books b ≡ get g.books b
  pub settled : book_trace b h operator before ≡ book_trace b g operator others

-- The shard of a book answers about it as a single host that gets all requests does, and has the book in the same
-- state. Each shard has its own rows and refusals, so the conditions are on the requests on this book only.
pub record ShardsAnswerAsOne (F : Type 0) : Type 0 where
  pub replies : (shard : ℕ → ℕ) (shards : ℕ → Host) (runs : ℕ → List (Event F)) (one : Host) (all : List (Event F)) (operator k : ℕ) (stamp : Stamp)
      (request : Request)
      → shard request.book ≡ k → IsAskedAlike request.book operator (shards k) one (runs k) all
      → is_settled (reply_after (shards k) operator (runs k) stamp request) ≡ true
      → is_settled (reply_after one operator all stamp request) ≡ true
      → reply_after (shards k) operator (runs k) stamp request ≡ reply_after one operator all stamp request
  pub books : (shard : ℕ → ℕ) (shards : ℕ → Host) (runs : ℕ → List (Event F)) (one : Host) (all : List (Event F)) (operator k b : ℕ)
      → shard b ≡ k → IsAskedAlike b operator (shards k) one (runs k) all
      → get (run_host (shards k) operator (runs k)).books b ≡ get (run_host one operator all).books b

-- the run of these requests, none of which has the mark of memory that ran out or of a store that failed
abbrev pub taken : {F : Type 0} → List (Stamp × Request) → List (Event F)
taken {F = F} asked = map (λ a. let event : Event F = record { stamp = a.0; mark = read_as (Ok a.1) } in event) asked

-- all requests on book b were settled
abbrev pub AreAllSettled : Type 0 → ℕ → ℕ → Host → List (Stamp × Request) → Type 0
AreAllSettled F b operator h asked = book_trace b h operator (taken {F = F} asked) ≡ on_book b asked

-- A settled reply is that of a single host that gets all requests, for every assignment of books to shards. The book
-- must be the same in both at the start, and all its earlier requests must have been settled in both.
abbrev pub HandedOutAnswersAsOne : Type 0 → Type 0
HandedOutAnswersAsOne F =
    (shard : ℕ → ℕ) (shards : ℕ → Host) (one : Host) (asked : List (Stamp × Request)) (operator k : ℕ) (stamp : Stamp) (request : Request)
    → shard request.book ≡ k → get (shards k).books request.book ≡ get one.books request.book
    → AreAllSettled F request.book operator (shards k) (handed shard k asked) → AreAllSettled F request.book operator one asked
    → is_settled (reply_after (shards k) operator (taken {F = F} (handed shard k asked)) stamp request) ≡ true
    → is_settled (reply_after one operator (taken {F = F} asked) stamp request) ≡ true
    → reply_after (shards k) operator (taken {F = F} (handed shard k asked)) stamp request ≡ reply_after one operator (taken {F = F} asked) stamp request
