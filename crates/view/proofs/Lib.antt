pub mod Slack
pub mod Listing
