pub mod Digits
pub mod DigitsLaws
pub mod Text
pub mod Wrote
pub mod TextLaws
pub mod Examples
