pub mod WindowMatches
pub mod KeyLemmas
pub mod CompletenessLemmas
pub mod TextLemmas
pub mod RemainingLemmas
pub mod FoundLemmas
