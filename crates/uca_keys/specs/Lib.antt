pub mod Nodes
pub mod Coded
pub mod Fronts
pub mod Paths
pub mod Links
pub mod Cursor
