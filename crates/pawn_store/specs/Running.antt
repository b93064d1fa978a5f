-- What it means that requests were answered over the tables of a store.
use Rattle.pawn_book.specs.HostStep.{Host}
use Rattle.pawn_book.specs.Sound.{IsSound}
use Rattle.pawn_host.specs.Crashes.{IsLeftByRun, IsLeftWhole}
use Rattle.pawn_host.specs.Headline.{AnswerAlone}
use Rattle.pawn_host.specs.Keeps.{IsRun, Kept, Start, service_keep}
use Rattle.pawn_host.specs.Run.{IsMarked, Item, host_after_run, replies}
use Rattle.pawn_host.specs.Session.{Given, IsSession}
use Rattle.pawn_host.specs.Split.{most_requests}
use Rattle.pawn_host.specs.declared.service.Service.{Service}
use Rattle.pawn_host.specs.declared.session.Ended.{Ended}
use Rattle.pawn_host.specs.declared.session.IoFault.{IoFault}
use Rattle.pawn_opening.specs.Opened.{OpensAs, empty_host}
use Rattle.pawn_pledge.specs.declared.command.Stamp.{Stamp}
use Rattle.pawn_program.specs.Serving.{AreServed, items_of}
use Rattle.pawn_program.specs.Stamps.{AreStamps, GivesStamp}
use Rattle.pawn_program.specs.declared.settings.Settings.{Settings}
use Rattle.pawn_program.specs.declared.stamps.Stamps.{Stamps}
use Rattle.pawn_table_keeper.specs.declared.keeper.TableKeep.{TableKeep}
use Rattle.pawn_tables.specs.Keeps.{Keeps, Leaves}
use Rattle.pawn_tables.specs.StandsFor.{HoldHost}
use Rattle.rand_chacha.specs.ChaCha.{of_seed}
use Rattle.sqlite.specs.Files.{HoldsDatabase}
use Rattle.sqlite.specs.Held.{state}
use Rattle.sqlite.specs.State.{HasCleanDisk, State}
use Rattle.sqlite.specs.Tree.{Trees}
use Rattle.sqlite_trees.specs.declared.store.Store.{Ghosts}
use Rattle.sqlite_wal.specs.Recovery.{Image}
use Rattle.std.specs.Prelude.{◌≡◌, ◌++◌, ℕ, All, List, [], Option, Result, Ok, Err}

-- the store that a service uses
abbrev pub store_of : {S : Type 0} (ghosts : Ghosts S) → Service (TableKeep S ghosts) → State
store_of ghosts service = state ghosts (service_keep service).conn

-- The trees hold a sound host that a crash may leave after these items. It is the host after all of them, or that host
-- with one more request done, which was refused because memory ran out or the store failed.
pub record HoldOneLeft (h : Host) (operator : ℕ) (items : List Item) (trees : Trees) : Type 0 where
  pub host : Host
  pub sound : IsSound host
  pub held : HoldHost trees host
  pub exact : IsLeftByRun h operator items (λ g. g ≡ h) host
  pub whole : IsLeftWhole h operator items host

-- These items were answered over a store since it was opened for the host. Its tables stand for the host after all of
-- them, which is sound. All trees that a crash may leave hold that host, or that host with one more request done.
pub record HasAnswered (store : State) (h : Host) (operator : ℕ) (items : List Item) : Type 0 where
  pub marked : All (IsMarked ⊥) items
  pub keeps : Keeps store (host_after_run h operator items)
  pub sound : IsSound (host_after_run h operator items)
  pub crash : (trees : Trees) → store.may_leave trees → HoldOneLeft h operator items trees

-- the start of a call over a store, and the keeper after it
abbrev pub start_at : State → Host → ℕ → Start
start_at store h operator = record { Steady = ⊥; operator = operator; host = h; leaves = Leaves store }

-- the keeper over a store after a call
abbrev pub kept_in : State → Kept
kept_in store = record { stands = Keeps store; leaves = Leaves store }

-- A call did this with further items, over a store that had answered those of `before`. The answer to each further
-- item, if it is settled, is that of its book, or of its receipts, alone. After the call the store has answered all of
-- them.
pub record ActsOverTables (old new : State) (h : Host) (operator : ℕ) (before : List Item) (Did : Start → Kept → List Item → Type 0) : Type 0 where
  pub items : List Item
  pub did : Did (start_at old (host_after_run h operator before) operator) (kept_in new) items
  pub alone : AnswerAlone (host_after_run h operator before) operator items (replies (host_after_run h operator before) operator items)
  pub answered : HasAnswered new h operator (before ++ items)

-- this holds for each host for which the store was opened and for all items that were answered since, as long as the
-- disk returns what was written
abbrev pub OverTables : State → State → ℕ → (Start → Kept → List Item → Type 0) → Type 0
OverTables old new operator Did =
    (h : Host) (before : List Item) → HasAnswered old h operator before → HasCleanDisk new → ActsOverTables old new h operator before Did

-- a run of these items led to these answers
abbrev pub RunsItems : List (Stamp × List ℕ) → List (List ℕ) → Start → Kept → List Item → Type 0
RunsItems given answers start kept items = (run : IsRun start given answers kept) × (run.items ≡ items)

module _ {S : Type 0} (steps : S → Option Stamp → S → Type 0) where
  -- the items that a session acted on
  abbrev pub acted_items : (given : Given S) (stamps : S) (written : Option (List ℕ)) (result : Result Ended IoFault) (kept : Kept)
      → IsSession steps given stamps written result kept → List Item
  acted_items given stamps written (Ok ended) kept session = session.items
  acted_items given stamps written (Err fault) kept session = session.items

  -- the effect of a session with these stamps and this stream, and with this written before
  abbrev pub HoldsSession : S → Option (List ℕ) → Option (List ℕ) → S → Option (List ℕ) → Result Ended IoFault → Start → Kept → List Item → Type 0
  HoldsSession from stream before stamps written result start kept items =
      (session : IsSession steps (record { start = start; stamps = from; stream = stream; written = before }) stamps written result kept)
      × (acted_items (record { start = start; stamps = from; stream = stream; written = before }) stamps written result kept session ≡ items)

  -- this many connections were answered, and these are their items
  abbrev pub ServesConnections : S → S → ℕ → Start → Kept → List Item → Type 0
  ServesConnections from to answered start kept items = (served : AreServed steps from to start answered kept) × (items_of served.sessions ≡ items)

-- the effect of a session with the stamps of the settings: up to 1,000 of their day, with the words of their seed from
-- the first on
abbrev pub AnswersBySettings : Settings → Option (List ℕ) → Option (List ℕ) → Option (List ℕ) → Result Ended IoFault → Start → Kept → List Item → Type 0
AnswersBySettings settings stream before written result start kept items =
    (from to : Stamps)
    × AreStamps most_requests settings.day (of_seed settings.seed) from
    × HoldsSession GivesStamp from stream before to written result start kept items

-- the host of a new store is sound
abbrev pub EmptyHostIsSound : Type 0
EmptyHostIsSound = (limit : ℕ) → IsSound (empty_host limit)

-- a store that was just opened for a sound host has answered nothing yet
abbrev pub OpenedHasAnsweredNothing : {S : Type 0} → Ghosts S → Type 0
OpenedHasAnsweredNothing {S} ghosts =
    (service : Service (TableKeep S ghosts)) (h : Host) (operator : ℕ) → IsSound h → OpensAs (store_of ghosts service) h
    → HasAnswered (store_of ghosts service) h operator []

-- If files hold trees that a crash may leave after these items, then the store that is opened over them has answered
-- nothing yet since it was opened for the host after all items, or for that host with one more request done.
abbrev pub Reopens : Image → State → Type 0
Reopens image store =
    (h : Host) (operator : ℕ) (items : List Item) (trees : Trees) → ∥ HoldsDatabase image trees ∥₁ → HoldOneLeft h operator items trees
    → (left : Host) × IsLeftWhole h operator items left × ((key : ℕ) → HasAnswered store left key [])
