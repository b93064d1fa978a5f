use Rattle.pawn_wire.proofs.RouteLemmas.{walk_ascii, first_given, second_part}
use Rattle.std.proofs.Common.{sym, ◌∙◌}
use Rattle.pawn_wire.proofs.router.first_two.Goals as goal

pub returns-in_default-next-clause-first : goal.returns-in_default-next-clause-first
returns-in_default-next-clause-first c = first_given c.args.params.now.pattern.now c.args.params.now.text.now c.args.params.now.path.now
    c.args.params.now.names.now _ _ _ _ c.requires.ascii c.iter-parts.ensures.value c.in-Some.ensures.steps

pub returns-clause-first : goal.returns-clause-first
returns-clause-first c = first_given c.args.params.now.pattern.now c.args.params.now.text.now c.args.params.now.path.now c.args.params.now.names.now _ _ _ _
    c.requires.ascii c.iter-parts.ensures.value c.in-Some.ensures.steps

pub returns-clause-second : goal.returns-clause-second
returns-clause-second c =
    let s = c.in-Some.ensures.steps in
    let t = c.in-Some-next.ensures.steps in
    second_part _ _ _ s.0 t.0 _ (walk_ascii c.args.params.now.pattern.now c.args.params.now.text.now c.args.params.now.path.now c.args.params.now.names.now 0 0
    c.requires.ascii) (sym c.iter-parts.ensures.value ∙ s.1) t.1 t.3
