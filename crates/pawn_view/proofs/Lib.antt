pub mod SoundLemmas
pub mod StatementLemmas
pub mod PresentedLemmas
pub mod SheetLemmas
