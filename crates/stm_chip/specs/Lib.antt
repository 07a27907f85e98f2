pub mod Document
pub mod Entry
pub mod Items
pub mod Over
pub mod Plan
pub mod Touch
pub mod Tried
