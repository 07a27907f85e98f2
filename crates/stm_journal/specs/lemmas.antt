pub mod NewestLaws
pub mod CallEntries
pub mod Examples
pub mod ForgetLaws
pub mod FitsLaws
