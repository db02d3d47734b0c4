pub mod ToJoins
pub mod Filling
pub mod Schedules
pub mod Pieces
pub mod Laid
