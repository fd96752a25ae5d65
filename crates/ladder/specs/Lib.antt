pub mod Values
pub mod Evaluate
pub mod Scan
pub mod Starts
pub mod Scanned
pub mod Order
