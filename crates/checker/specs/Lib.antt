pub mod Traced
pub mod Refuted
pub mod Checked
