pub mod FoundLaws
pub mod FrontLaws
pub mod DueLaws
pub mod KindLaws
