pub mod Solution
pub mod Parts
pub mod Values
pub mod Places
pub mod Statements
