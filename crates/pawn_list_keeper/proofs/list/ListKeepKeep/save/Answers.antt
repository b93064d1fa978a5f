use Rattle.pawn_list_keeper.specs.Listed.{host_of}
use Rattle.std.proofs.Common.{refl}
use Rattle.pawn_list_keeper.proofs.list.ListKeepKeep.save.Goals as goal

pub make-requires : goal.make-requires
make-requires c = record { can_save = c.requires.can_save tt tt (host_of c.args.self.now) c.know_sound.ensures.sound refl }
