pub mod Known
pub mod Seen
pub mod Watching
pub mod Laws
pub mod lemmas
