pub mod Number
pub mod CommandSet
pub mod Given
pub mod Pages
pub mod Request
pub mod Images
pub mod Json
