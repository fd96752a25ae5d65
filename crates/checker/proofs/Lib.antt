pub mod TracedLaws
pub mod CountLaws
pub mod RefutedLaws
pub mod CheckedLaws
