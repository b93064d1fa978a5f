use Rattle.pawn_host.proofs.CrashLemmas.{crash_leaves_whole, left_by-append}
use Rattle.pawn_host.proofs.laws.crash_leaves_whole.Goals as goal

pub returns : goal.returns
returns g c = record {
  law = λ keep h operator items left alone by. crash_leaves_whole h operator items (g.K.Keep.keeping.leaves keep) alone left by;
  compose = λ keep h operator a b left by. left_by-append h operator a b (g.K.Keep.keeping.leaves keep) left by;
}
