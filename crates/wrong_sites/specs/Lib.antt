pub mod Behaving
pub mod Undecided
pub mod UndecidedRuns
pub mod Gathering
pub mod Rows
pub mod Commits
pub mod Differing
pub mod DifferingRuns
