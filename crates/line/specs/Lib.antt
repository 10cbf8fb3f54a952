pub mod Words
pub mod WordsLaws
pub mod Command
pub mod CommandLaws
pub mod Examples
