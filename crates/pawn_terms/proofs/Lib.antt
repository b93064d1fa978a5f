pub mod CalendarLemmas
pub mod SixMonths
pub mod TextLemmas
pub mod AgreementLemmas
