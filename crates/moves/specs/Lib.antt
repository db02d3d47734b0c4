pub mod Moves
pub mod Theorems
pub mod Examples
