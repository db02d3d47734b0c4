pub mod Pairs
pub mod Checked
