-- A run of the service: requests as bytes, each with its mark.
use Rattle.pawn_host.specs.Common.{Answered, Denied, Event, Exported, Faulted, Host, Listed, Mark, Said, SaysRequest}
use Rattle.pawn_host.specs.Common.{Shown, Stamp, Replied, WireFault, csv_of, fault_text, no_memory, no_store, out_text}
use Rattle.pawn_host.specs.Common.{read_as, reply_text, run_host, run_replies}
use Rattle.pawn_reply.specs.declared.fault.WireFault.TheVariants.{Memory}
use Rattle.pawn_view.specs.Sheets.{sheet_text}
use Rattle.pawn_view.specs.Text.{presented_text}
use Rattle.std.specs.Prelude.{◌≢◌, ℕ, List, map, codes, Err}
use Rattle.pawn_reply.specs.declared.reply.Out.TheVariants as wire

-- an item of a run: its stamp, its bytes, and the mark of its answer
pub record Item : Type 0 where
  pub stamp : Stamp
  pub bytes : List ℕ
  pub mark : Mark WireFault

-- The mark is one that the item can have. If the bytes were read, the mark is the request or the fault that they
-- encode, which is never that memory ran out. A fault of the store is possible only if the keeper isn't steady.
abbrev pub IsMarkOf : Type 0 → List ℕ → Mark WireFault → Type 0
IsMarkOf Steady bytes (read_as said) = SaysRequest bytes said × (said ≢ Err Memory)
IsMarkOf Steady bytes no_memory = Unit {0}
IsMarkOf Steady bytes no_store = Steady → ⊥

-- the mark of the item is one that its bytes can have
abbrev pub IsMarked : Type 0 → Item → Type 0
IsMarked Steady item = IsMarkOf Steady item.bytes item.mark

-- the part of an item that the caller passes
abbrev pub input_of : Item → Stamp × List ℕ
input_of item = (item.stamp, item.bytes)

-- an item without its bytes: its stamp and its mark
abbrev pub event_of : Item → Event WireFault
event_of item = record { stamp = item.stamp; mark = item.mark }

-- the items as the books see them
abbrev pub events : List Item → List (Event WireFault)
events items = map event_of items

-- the bytes of a reply
abbrev pub said_text : Said WireFault → List ℕ
said_text (Answered (Replied reply)) = out_text (wire.Done reply)
said_text (Answered (Denied why)) = out_text (wire.Refused why)
said_text (Answered (Shown day pledges)) = reply_text 200 (codes "text/plain; charset=utf-8") (presented_text day pledges)
said_text (Answered (Listed day capacity items)) = reply_text 200 (codes "text/plain; charset=utf-8") (sheet_text day capacity items)
said_text (Answered (Exported rows)) = reply_text 200 (codes "text/csv; charset=utf-8") (csv_of rows)
said_text (Faulted fault) = fault_text fault

-- the host after a run
abbrev pub host_after_run : Host → ℕ → List Item → Host
host_after_run h operator items = run_host h operator (events items)

-- the replies of a run, in order
abbrev pub replies : Host → ℕ → List Item → List (List ℕ)
replies h operator items = map said_text (run_replies h operator (events items))
