pub mod PartLaws
pub mod ReadBack
