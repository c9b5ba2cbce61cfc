pub mod ComparingLemmas
pub mod TestLineLemmas
pub mod TestWordLemmas
pub mod ReportLemmas
