use Rattle.pawn_table_keeper.specs.Common.{Go, IsUnsoundAt, Reads, flat_map, get, pledges_of}
use Rattle.pawn_table_keeper.specs.Exports.{number_rows, numbers_from}
use Rattle.pawn_table_keeper.specs.Handing.{HandsRows, keeping_of}
use Rattle.std.proofs.Common.{Ok, length, ◌*◌, ◌≡◌}
use Rattle.pawn_table_keeper.proofs.keeper.TableKeep.hand_rows.Given as goal

abbrev pub invariant-loop-range : goal.invariant-loop-range
invariant-loop-range g l = record {
  counted : Reads (keeping_of g.S.Store) l.fn.self l.self (λ h. l.count ≡ length (pledges_of (get h.books l.book)));
  handed : HandsRows (keeping_of g.S.Store) (IsUnsoundAt l.book) g.V.Visitor.step l.fn.self l.self l.fn.visitor l.visitor (Ok Go)
      (λ h. flat_map (number_rows (get h.books l.book)) (numbers_from 0 (l.range * 32)));
}
