pub mod Blocks
pub mod ReadBack
pub mod Regions
pub mod ByHeld
pub mod Keeping
pub mod Lawful
pub mod Histories
pub mod Examples
