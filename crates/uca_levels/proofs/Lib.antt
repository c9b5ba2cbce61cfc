pub mod ReadsLemmas
pub mod CommonLemmas
pub mod LevelsFromCut
pub mod WithoutFront
pub mod CommonFront
pub mod FirstWeight
pub mod StreamLemmas
pub mod PrimarySteps
