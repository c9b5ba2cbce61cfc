pub mod CommandLineLemmas
pub mod HelpLemmas
