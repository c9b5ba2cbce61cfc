mod Steps
mod UpperEndLemmas
mod OpeningLemmas
mod Parts
mod LevelSteps
