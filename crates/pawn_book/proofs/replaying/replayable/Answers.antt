use Rattle.pawn_book.proofs.Sounds.{sound_filled}
use Rattle.pawn_book.specs.Common.{PledgeValue, Rates}
use Rattle.pawn_book.specs.Rows.{AreReplayable}
use Rattle.std.proofs.Common.{List, subst, sym}
use Rattle.pawn_book.proofs.replaying.replayable.Goals as goal

pub returns-clause-sound : goal.returns-clause-sound
returns-clause-sound c =
    let rows = c.args.rows.now in
    let terms = c.as_slice.ensures.value in
    let pledges = c.as_slice-2.ensures.value in
    let there : AreReplayable c.as_slice.result.now c.as_slice-2.result.now → AreReplayable rows.terms rows.pledges = λ r.
    subst (λ (ps : List PledgeValue). AreReplayable rows.terms ps) pledges (subst (λ (ts : List Rates). AreReplayable ts c.as_slice-2.result.now) terms r) in
    let back : AreReplayable rows.terms rows.pledges → AreReplayable c.as_slice.result.now c.as_slice-2.result.now = λ r.
    subst (λ (ps : List PledgeValue). AreReplayable c.as_slice.result.now ps) (sym pledges)
    (subst (λ (ts : List Rates). AreReplayable ts rows.pledges) (sym terms) r) in
    λ book key sound word. (
      λ found. sound_filled book key rows sound word c.as_slice-2.ensures.texts_and_words (there (c.are_replayable.ensures.answer.0 found)),
      λ filled. c.are_replayable.ensures.answer.1 (back filled.rows),
    )
