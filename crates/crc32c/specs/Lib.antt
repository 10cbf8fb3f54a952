pub mod Crc
pub mod CrcLaws
pub mod CrcExamples
pub mod Table
pub mod XorLaws
pub mod TableLaws
pub mod FoursLaws
