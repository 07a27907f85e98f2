pub mod UniqueIdLaws
pub mod PageLaws
pub mod FlashLaws
pub mod PartJoins
pub mod PartLaws
pub mod DialogueLaws
pub mod MomentLaws
pub mod Examples
