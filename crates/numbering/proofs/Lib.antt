pub mod Found
pub mod Numbered
mod Linking
mod Searches
