use Rattle.pawn_tables.proofs.ReadTexts.{READ_BOOKING, texts}
use Rattle.pawn_tables.proofs.Reading.{◌∙◌, booking_shown, found, found_is}
use Rattle.pawn_tables.proofs.SoundReads.{booking_unsound}
use Rattle.pawn_tables.proofs.queries.booking_in.Goals as goal

pub returns-clause-finds : goal.returns-clause-finds
returns-clause-finds g c = found _ _ _ _ _ c.first_booking.result _ READ_BOOKING.now (λ more. (texts more).booking_is.2) c.in_ok-rows.ensures.lent.leaves
    (λ clean. rw (c.params-to_sql.ensures, c.params-to_sql-2.ensures) at (c.in_ok-rows.ensures.shown clean))
    (λ h st shown. found_is c.first_booking.result _ _ _ (c.first_booking.ensures.read _
    (c.deref.ensures.value ∙ booking_shown _ _ h c.args.book c.args.number _ st shown)) (booking_unsound h st.storable c.args.book c.args.number))
