pub mod Others
pub mod CommaLaws
pub mod FitsLaws
