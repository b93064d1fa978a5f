mod HexLemmas
pub mod ServingLemmas
mod StampLemmas
