pub mod Small
pub mod Rest
