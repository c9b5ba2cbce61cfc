pub mod LinesLemmas
pub mod SendingLemmas
pub mod OrderingLemmas
pub mod KeyFrontLemmas
pub mod SortLemmas
pub mod LineSortLemmas
