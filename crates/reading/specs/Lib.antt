pub mod Readings
pub mod Sheets
pub mod Traces
pub mod Certificates
