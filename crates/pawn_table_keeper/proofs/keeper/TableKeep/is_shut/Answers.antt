use Rattle.pawn_table_keeper.proofs.ShutStores.{asked, left_by, told_shut}
use Rattle.pawn_table_keeper.proofs.keeper.TableKeep.is_shut.Goals.{in-Err-SqliteFailure-Closed, in_default}
use Rattle.pawn_table_keeper.proofs.keeper.TableKeep.is_shut.Goals.{in_default-2, in_default-3}
use Rattle.pawn_table_keeper.specs.Common.{state}
use Rattle.sqlite.specs.Outline.{Outline}
use Rattle.sqlite.specs.declared.error.Error.TheVariants.{SqliteFailure}
use Rattle.sqlite.specs.declared.error.ErrorCode.TheVariants.{Closed}
use Rattle.std.proofs.Common.{Err, rules, ◌≡◌}
use Rattle.pawn_table_keeper.proofs.keeper.TableKeep.is_shut.Goals as goal

pub returns-clause-reads : goal.returns-clause-reads
returns-clause-reads g c =
    asked (λ k. state g.S.Store k.conn) c.args.self.now _ c.args.self.now.rests (search rules) (c.prepare.ensures.mode c.args.self.now.rests)
    (left_by (state g.S.Store c.args.self.now.conn) (state g.S.Store c.prepare.new.self) _ c.prepare.result
    (λ (s : Outline). s.text ≡ _) c.prepare.ensures.ok c.prepare.ensures.err) c.prepare.ensures.survives

pub returns-clause-shut : goal.returns-clause-shut
returns-clause-shut g c told = elim c.match-prepare.branch [
  | in-Err-SqliteFailure-Closed w ↦ let is : c.prepare.result ≡ Err (SqliteFailure Closed) = search rules in
      told_shut (state g.S.Store c.args.self.now.conn) (state g.S.Store c.prepare.new.self) _ c.prepare.result
      (g.met.S.Store.shut_if_dirty _) is c.prepare.ensures.err
  | in_default w ↦ absurd (let e = w.result-is in cc)
  | in_default-2 w ↦ absurd (let e = w.result-is in cc)
  | in_default-3 w ↦ absurd (let e = w.result-is in cc)
]
