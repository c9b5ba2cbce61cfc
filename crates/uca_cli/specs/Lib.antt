pub mod BuiltIn
pub mod Borrowed
pub mod RuleFile
pub mod Performing
pub use Rattle.uca_conform.specs.Conforming
