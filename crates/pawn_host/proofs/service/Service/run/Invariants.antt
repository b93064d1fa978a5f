use Rattle.pawn_host.specs.Keeps.{answer_bytes, StaysOpen, ForEachStart, IsRun}
use Rattle.std.proofs.Common.{◌≡◌, take, map, length, vec_len, vec_capacity}
use Rattle.pawn_host.proofs.service.Service.run.Given as goal

abbrev pub invariant-loop-item : goal.invariant-loop-item
invariant-loop-item g l = record {
  len : vec_len l.answers ≡ l.item-index;
  room : vec_capacity l.answers ≡ length l.items;
  stays : StaysOpen g.K.Keep.keeping l.fn.self l.self;
  run : ForEachStart g.K.Keep.keeping l.fn.self l.self
      (λ start. IsRun start (map (λ p. (p.0, p.1.items)) (take l.item-index l.items)) (map answer_bytes l.answers.items));
}
