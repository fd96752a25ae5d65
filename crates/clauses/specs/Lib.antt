pub mod Emits
pub mod Gates
pub mod Stack
pub mod Formed
pub mod Runged
pub mod Started
pub mod Sets
pub mod Translated
