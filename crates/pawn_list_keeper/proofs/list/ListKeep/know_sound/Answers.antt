use Rattle.pawn_book.specs.Sound.{IsSound}
use Rattle.pawn_list_keeper.specs.Listed.{host_of}
use Rattle.std.proofs.Common.{subst}
use Rattle.pawn_list_keeper.proofs.list.ListKeep.know_sound.Goals as goal

pub returns : goal.returns
returns c = record { sound = subst (λ k. IsSound (host_of k)) c.self.view_is c.self.invariant.sound }
