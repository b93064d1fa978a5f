-- The worked example of two books on two shards, compared with one host that has both.
use Rattle.pawn_book.specs.BookStep.{BookValue, Replied, Denied}
use Rattle.pawn_book.specs.Common.{Command, Done, Fixed, Stamp, free, ring_opening}
use Rattle.pawn_book.specs.HostStep.{Host}
use Rattle.pawn_book.specs.Runs.{Said, Answered, run_replies}
use Rattle.pawn_book.specs.Shards.{handed, taken}
use Rattle.pawn_book.specs.WorkedSlots.{at, receipt}
use Rattle.pawn_book.specs.declared.refusal.Refusal.TheVariants.{Full}
use Rattle.pawn_book.specs.declared.reply.Reply.TheVariants.{Opened, Commanded}
use Rattle.pawn_book.specs.declared.request.BrokerRequest.{BrokerRequest}
use Rattle.pawn_book.specs.declared.request.BrokerRequest.TheVariants.{TakePledge, OnPledge}
use Rattle.pawn_book.specs.declared.request.Caller.TheVariants.{Broker}
use Rattle.pawn_book.specs.declared.request.Request.{Request}
use Rattle.std.specs.FinMap.{empty, insert}
use Rattle.std.specs.Prelude.{◌≡◌, ℕ, true, false, List, [], ◌∷◌, ◌==◌, if◌then◌else◌, None, codes}

-- a book with this key, and with terms without charges
abbrev pub book_of : ℕ → BookValue
book_of key = record { key = key; name = codes "High Street"; capacity = 1; terms = free ∷ []; pledges = []; imported = None }

-- book 7 has shard 0, and any other book shard 1
abbrev pub shard : ℕ → ℕ
shard b = if b == 7 then 0 else 1

-- the host that has both books
abbrev pub one_host : Host
one_host = record { books = insert (insert empty 8 (book_of 6)) 7 (book_of 5); limit = 1000 }

-- the shard of book 7, with a limit on its rows
abbrev pub first_shard : ℕ → Host
first_shard limit = record { books = insert empty 7 (book_of 5); limit = limit }

-- the shard of book 8
abbrev pub second_shard : Host
second_shard = record { books = insert empty 8 (book_of 6); limit = 1000 }

-- a request of the broker of book 7
abbrev pub of_seven : ℕ → BrokerRequest → Stamp × Request
of_seven word asked = (at word, record { book = 7; caller = Broker 5 asked })

-- a request of the broker of book 8
abbrev pub of_eight : ℕ → BrokerRequest → Stamp × Request
of_eight word asked = (at word, record { book = 8; caller = Broker 6 asked })

-- the request to take a ring in pledge for 10000 pence
abbrev pub a_ring : BrokerRequest
a_ring = TakePledge (ring_opening (Fixed 10000) false None)

-- the request to put pledge 1 on hold
abbrev pub hold : BrokerRequest
hold = OnPledge 1 Command.Hold

-- the request to end the hold of pledge 1
abbrev pub release : BrokerRequest
release = OnPledge 1 Command.Release

-- a ring is taken in book 7 with word 1, and another in book 8 with word 2; then the first is put on hold, and the
-- second is released
abbrev pub asked : List (Stamp × Request)
asked = of_seven 1 a_ring ∷ of_eight 2 a_ring ∷ of_seven 9 hold ∷ of_eight 9 release ∷ []

-- the answers of a host in a run
abbrev pub replies_of_run : Host → List (Stamp × Request) → List (Said ⊥)
replies_of_run h run = run_replies h 9 (taken run)

-- the answer to an opening with this word
abbrev pub opened : ℕ → Said ⊥
opened word = Answered (Replied (Opened (receipt word)))

-- the requests that each shard gets, and the answers
pub record WorkedShards : Type 0 where
  -- each shard gets the requests on its book
  pub handed_first : handed shard 0 asked ≡ of_seven 1 a_ring ∷ of_seven 9 hold ∷ []
  pub handed_second : handed shard 1 asked ≡ of_eight 2 a_ring ∷ of_eight 9 release ∷ []
  pub handed_third : handed shard 2 asked ≡ []
  -- the one host answers all four requests, and each shard gives the same answers to its own two
  pub together : replies_of_run one_host asked
      ≡ opened 1 ∷ opened 2 ∷ Answered (Replied (Commanded 1 (Done.Held true))) ∷ Answered (Replied (Commanded 1 (Done.Held false))) ∷ []
  pub first : replies_of_run (first_shard 1000) (handed shard 0 asked) ≡ opened 1 ∷ Answered (Replied (Commanded 1 (Done.Held true))) ∷ []
  pub second : replies_of_run second_shard (handed shard 1 asked) ≡ opened 2 ∷ Answered (Replied (Commanded 1 (Done.Held false))) ∷ []
  -- each shard has its own limit on rows: if it has no row left it refuses, and this reply is not settled
  pub full : replies_of_run (first_shard 3) (handed shard 0 (of_seven 1 a_ring ∷ [])) ≡ Answered (Denied Full) ∷ []
