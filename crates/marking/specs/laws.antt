-- The laws behind marking: one page's tests, and the run over the pages.
pub mod Faults
pub mod Rest
pub mod Judged
pub mod Run
pub mod Page
pub mod Listed
