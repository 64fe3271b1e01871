pub mod Lists
pub mod WellFormed
pub mod Groups
pub mod Indexes
pub mod Laws
pub mod WellFormedLemmas
pub mod ListsLemmas
