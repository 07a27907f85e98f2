pub mod Acting
pub mod Stored
pub mod Risks
pub mod NextRun
