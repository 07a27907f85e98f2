pub mod Telling
pub mod OneCall
pub mod PlacedFiles
pub mod WholeCalls
pub mod Acts
pub mod Tried
pub mod TablesOver
pub mod JsonLists
pub mod Finished
pub mod Unchanged
pub mod WatchedWork
mod TextParts
mod UpperHex
