pub mod PlayLaws
pub mod ReplayLaws
