pub mod EndsLemmas
pub mod PutLemmas
pub mod ShareLemmas
pub mod ListLemmas
