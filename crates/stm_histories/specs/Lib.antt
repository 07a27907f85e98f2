pub mod Histories
pub mod Unpowered
