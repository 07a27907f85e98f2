mod Storing
pub mod Placing
pub mod Seeing
pub mod Hearing
pub mod Undoing
pub mod Keeping
pub mod Existing
pub mod Passing
