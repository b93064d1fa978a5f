mod Empty
mod OtherRowLemmas
mod Runs
mod Turns
