pub mod Flags
pub mod Store
pub mod Change
pub mod TrailerLaws
pub mod CopyLaws
pub mod Finish
pub mod InjectiveLaws
pub mod CheckExamples
