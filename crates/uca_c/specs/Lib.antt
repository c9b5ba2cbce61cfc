pub mod Looks
pub mod Reports
pub mod Settings
pub mod Texts
