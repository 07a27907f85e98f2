pub mod Rest
pub mod Simulator
pub mod Memory
pub mod Unmodelled
pub mod BadLines
pub mod lemmas
