pub mod Outcomes
pub mod Refusals
pub mod Format
pub mod FormatLaws
pub mod Cards
pub mod StoreExamples
pub mod NumberExamples
