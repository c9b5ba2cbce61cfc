pub mod Conforming
pub mod Comparing
pub mod TestReading
pub mod TestWords
