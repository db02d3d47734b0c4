pub mod Writes
pub mod Granting
