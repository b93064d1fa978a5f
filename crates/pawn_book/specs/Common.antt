-- Re-exports the definitions of other crates that many files of this crate use.
pub use Rattle.pawn_base.specs.Lists.{DoNotFall, Each}
pub use Rattle.pawn_base.specs.Refusals.{IsSaid, first_of}
pub use Rattle.pawn_base.specs.Text.{IsText}
pub use Rattle.pawn_debt.specs.Worked.{free}
pub use Rattle.pawn_debt.specs.declared.entry.Kind.{Kind}
pub use Rattle.pawn_debt.specs.declared.entry.Kind.TheVariants.{Fixed, Running}
pub use Rattle.pawn_pledge.specs.Growth.{Grows, StaysOrGrows}
pub use Rattle.pawn_pledge.specs.Laws.{IsReplacing, IsSpent, MayExtend, entry_command}
pub use Rattle.pawn_pledge.specs.Number.{IsNumber}
pub use Rattle.pawn_pledge.specs.Pledge.{PledgeValue, end_of, live_of}
pub use Rattle.pawn_pledge.specs.Replayable.{AreNumbered, IsReachable}
pub use Rattle.pawn_pledge.specs.Step.{Answered, Changed, StepResult, Refused, is_bad_opening, new_pledge, pledge_step}
pub use Rattle.pawn_pledge.specs.Worked.{ring, ring_opening}
pub use Rattle.pawn_pledge.specs.declared.command.Command.{Command}
pub use Rattle.pawn_pledge.specs.declared.command.Done.{Done}
pub use Rattle.pawn_pledge.specs.declared.command.Stamp.{Stamp}
pub use Rattle.pawn_pledge.specs.declared.receipt.Receipt.{Receipt}
pub use Rattle.pawn_pledge.specs.declared.record.Agreement.{Agreement}
pub use Rattle.pawn_pledge.specs.declared.record.Booking.{Booking}
pub use Rattle.pawn_pledge.specs.declared.record.Issued.{Issued}
pub use Rattle.pawn_pledge.specs.declared.record.Opening.{Opening}
pub use Rattle.pawn_pledge.specs.declared.refusal.Refusal.{Refusal as PledgeRefusal}
pub use Rattle.pawn_terms.specs.Terms.{IsChecked}
pub use Rattle.pawn_terms.specs.TermsFault.{terms_answer}
pub use Rattle.pawn_terms.specs.declared.terms.Rates.{Rates}
pub use Rattle.pawn_terms.specs.declared.terms.TermsFault.{TermsFault}
pub use Rattle.std.specs.List.{filter, flat_map, list_all, list_any}
pub use Rattle.std.specs.Result.{result_unwrap_or}
pub use Rattle.std.specs.Str.{IsUtf8}
