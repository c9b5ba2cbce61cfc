pub mod Element
pub mod Settings
pub mod VariableWeighting
pub mod Weigher
pub mod Coded
