mod Checks
mod NamedPages
mod PowerLosses
mod Simulating
