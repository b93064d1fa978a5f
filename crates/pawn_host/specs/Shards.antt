-- Shards: each request of a stream is passed to the shard of its book, and answered there as by one host.
use Rattle.pawn_host.specs.Common.{Host, Request, SaysRequest, Stamp, book_trace, concat, get}
use Rattle.pawn_host.specs.Headline.{IsSettled}
use Rattle.pawn_host.specs.Run.{Item, IsMarked, input_of, events, replies}
use Rattle.pawn_host.specs.Split.{PassesOver}
use Rattle.std.specs.Prelude.{◌≡◌, ℕ, ◌⊎◌, All, List, [], ◌∷◌, map, Some, Ok, slice_get, take}

-- the bytes are a request on a book of shard k
abbrev pub IsFor : (ℕ → ℕ) → ℕ → List ℕ → Type 0
IsFor shard k bytes = (request : Request) × SaysRequest bytes (Ok request) × (shard request.book ≡ k)

-- of all requests that arrived, shard k gets those on its books, in order, with their bytes and stamps
abbrev pub HandsToShards : (ℕ → ℕ) → ℕ → List (Stamp × List ℕ) → List (Stamp × List ℕ) → Type 0
HandsToShards shard k [] part = part ≡ []
HandsToShards shard k (came ∷ all) part =
    (IsFor shard k came.1 × ((rest : List (Stamp × List ℕ)) × (part ≡ came ∷ rest) × HandsToShards shard k all rest))
    ⊎ ((IsFor shard k came.1 → ⊥) × HandsToShards shard k all part)

abbrev pub inputs : List Item → List (Stamp × List ℕ)
inputs items = map input_of items

abbrev pub bytes_of : List (Stamp × List ℕ) → List (List ℕ)
bytes_of came = map (λ c. c.1) came

-- if whole requests arrive, the requests that a shard gets are again a stream of whole requests, split in the same way
abbrev pub HandedSplits : Type 0
HandedSplits =
    (shard : ℕ → ℕ) (k : ℕ) (came part : List (Stamp × List ℕ)) (stream rest : List ℕ)
    → PassesOver stream (bytes_of came) rest → HandsToShards shard k came part → PassesOver (concat (bytes_of part)) (bytes_of part) []

-- the place of a request among those that its shard gets: it has the same bytes and stamp, and follows the requests
-- that arrived for that shard before it
pub record IsPlaced (shard : ℕ → ℕ) (k : ℕ) (all part : List Item) (i : ℕ) (item : Item) : Type 0 where
  pub place : ℕ
  pub twin : Item
  pub found : slice_get part place ≡ Some twin
  pub same : input_of twin ≡ input_of item
  pub before : HandsToShards shard k (inputs (take i all)) (inputs (take place part))

-- each request has a place among those that its shard gets
abbrev pub RequestsArePlaced : Type 0
RequestsArePlaced =
    (shard : ℕ → ℕ) (k : ℕ) (all part : List Item) → HandsToShards shard k (inputs all) (inputs part)
    → (i : ℕ) (item : Item) → slice_get all i ≡ Some item → IsFor shard k item.bytes → IsPlaced shard k all part i item

-- A request's settled answer from its shard is, byte for byte, the settled answer of one host that gets all requests.
-- This holds for every distribution of the books, if the book was the same in both at the start and has the same trace
-- in both.
abbrev pub ShardsReplyAsOne : Type 0
ShardsReplyAsOne =
    (shard : ℕ → ℕ) (k : ℕ) (own one : Host) (operator : ℕ) (all part : List Item)
    → All (IsMarked ⊥) all → All (IsMarked ⊥) part → HandsToShards shard k (inputs all) (inputs part)
    → (i : ℕ) (item : Item) (placed : IsPlaced shard k all part i item) (request : Request) (answer other : List ℕ)
    → slice_get all i ≡ Some item → SaysRequest item.bytes (Ok request) → shard request.book ≡ k
    → slice_get (replies own operator part) placed.place ≡ Some answer → slice_get (replies one operator all) i ≡ Some other
    → IsSettled answer → IsSettled other
    → get own.books request.book ≡ get one.books request.book
    → book_trace request.book own operator (events (take placed.place part)) ≡ book_trace request.book one operator (events (take i all))
    → answer ≡ other
