pub mod Segments
pub mod Texts
pub mod Tracks
pub mod Remembered
pub mod Calls
pub mod History
