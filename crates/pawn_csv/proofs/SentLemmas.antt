-- Rows written one after another.
use Rattle.pawn_csv.proofs.Basics.{◌∙◌, ℕ, List, [], ◌++◌, Option, refl, ap, PutsInTurn}
use Rattle.pawn_csv.specs.Sent.{PutsRow, has_ended, seen}
use Rattle.pawn_csv.specs.Types.{Sink}
use Rattle.pawn_writing.specs.Ends as view
use Rattle.pawn_writing.proofs.PutLemmas as put

-- what was written to a sink, as what was written to a writer
as_writer : {W : Type 0} {contents : W → Option (List ℕ)} {a b : Sink W} {s : List ℕ} → PutsRow contents a s b → view.Puts contents (seen a) s (seen b)
as_writer puts = record { failed = λ ended. ap seen (puts.ended ended); fine = puts.fine }

-- an empty text
pub puts_nil : {W : Type 0} (contents : W → Option (List ℕ)) (a : Sink W) → PutsRow contents a [] a
puts_nil contents a = let none = put.puts_nil contents (seen a) in record { ended = λ ended. refl; fine = none.fine }

-- one text after another
pub puts_then : {W : Type 0} {contents : W → Option (List ℕ)} {a b c : Sink W} {s t : List ℕ} → PutsRow contents a s b → PutsRow contents b t c
    → PutsRow contents a (s ++ t) c
puts_then first second = let both = put.puts_then (as_writer first) (as_writer second) in record {
  ended = λ ended. let same = first.ended ended in second.ended (ap has_ended same ∙ ended) ∙ same;
  fine = both.fine;
}

pub rows_in_turn : {W : Type 0} {contents : W → Option (List ℕ)} → PutsInTurn (PutsRow contents) has_ended
rows_in_turn = record { joined = λ a b c s t first second. puts_then first second; ended = λ a b s puts. puts.ended }
