-- Re-exports the definitions of other crates that many files of this crate use.
pub use Rattle.pawn_base.specs.Lists.{DoNotFall, Each, last_by}
pub use Rattle.pawn_base.specs.Refusals.{IsSaid, IsWant, NoneApplies, first_of}
pub use Rattle.pawn_debt.specs.Answers.{draw_answer, is_bad_amount, repay_answer, with_entry}
pub use Rattle.pawn_debt.specs.Due.{AreOrdered, DebtValue, Due, after_days, credit_of, due, last_of}
pub use Rattle.pawn_debt.specs.Kept.{IsDebtKept, IsDebtKept as IsOwed, sums_of, totals_of}
pub use Rattle.pawn_debt.specs.Limits.{most_entries, most_millionths, most_pence}
pub use Rattle.pawn_debt.specs.Owing.{owing_of, total_of}
pub use Rattle.pawn_debt.specs.Replay.{AreEntriesAccepted, IsEntryAccepted, sort_answer}
pub use Rattle.pawn_debt.specs.declared.entry.Entry.{Entry}
pub use Rattle.pawn_debt.specs.declared.entry.Sort.{Sort}
pub use Rattle.pawn_debt.specs.declared.entry.Sort.TheVariants.{Draw, Repay}
pub use Rattle.pawn_debt.specs.declared.fault.DebtFault.{DebtFault}
pub use Rattle.pawn_debt.specs.declared.fault.DebtFault.TheVariants.{BadAmount, EarlierDay, FixedSum, OverLimit}
pub use Rattle.pawn_debt.specs.declared.fault.DebtFault.TheVariants.{OverOwing}
pub use Rattle.pawn_debt.specs.declared.owing.Totals.{Totals}
pub use Rattle.pawn_terms.specs.Calendar.{IsRequestDay, later_of, period_end, six_months}
pub use Rattle.pawn_terms.specs.Limits.{last_request_day}
pub use Rattle.pawn_terms.specs.Terms.{IsChecked, rates_of}
pub use Rattle.pawn_terms.specs.declared.terms.Rates.{Rates}
unfoldable pub use Rattle.pawn_debt.specs.Due.{due_after}
unfoldable pub use Rattle.pawn_terms.specs.Calendar.{civil_after, days_of_months, days_of_years}
