mod Walks
pub mod Beginnings
mod BoardDigits
pub mod Damages
mod Escaping
pub mod Growing
pub mod LoggedPages
pub mod Waiting
pub mod Whole
pub mod Standings
pub mod NoWord
pub mod Told
pub mod Cuts
pub mod PageSeals
mod PageSums
pub mod Tallies
pub mod Checks
