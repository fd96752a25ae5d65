pub mod Replayed
pub mod Grounds
pub mod Statements
