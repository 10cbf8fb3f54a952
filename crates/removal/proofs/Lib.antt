pub mod Unlinking
pub mod Clearing
pub mod Closing
