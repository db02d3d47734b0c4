pub mod Refusals
pub mod Store
pub mod Calls
