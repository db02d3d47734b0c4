pub mod Splits
pub mod Digits
pub mod Lookups
pub mod Fits
