pub mod Walking
pub mod Distinct
pub mod Marking
pub mod Placing
pub mod Paging
pub mod Homing
pub mod Counting
