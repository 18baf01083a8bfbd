-- The report: the definition, how the code comes to it, the laws, and what is proved of every report.
pub mod Report
pub mod Tally
pub mod laws
pub mod Exact
