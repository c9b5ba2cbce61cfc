pub mod BuiltInLemmas
pub mod PerformingLemmas
