pub mod Common
pub mod PathLemmas
pub mod NodeLemmas
pub mod PushLemmas
pub mod ChildLemmas
pub mod LinkLemmas
pub mod FindLemmas
