pub mod RunScan
pub mod SourceLemmas
pub mod FormLemmas
pub mod WindowCalls
pub mod PassedCharacters
pub mod Utf8Lanes
