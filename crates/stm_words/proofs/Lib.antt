pub mod NamedImages
pub mod NamedPages
pub mod Subcommands
pub mod Simple
pub mod Asked
