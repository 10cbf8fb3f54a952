pub mod Walking
pub mod Slots
pub mod Searching
pub mod Tallies
pub mod SearchLaws
pub mod DecodeLaws
