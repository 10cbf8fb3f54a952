pub mod Shifting
pub mod Moving
pub mod Searching
pub mod Opening
pub mod Editing
pub mod Clearing
pub mod Rewriting
pub mod Trimming
