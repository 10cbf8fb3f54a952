pub mod Move
pub mod Spot
pub mod Span
pub mod LastLaws
pub mod SpotLaws
pub mod SpanLaws
pub mod TargetLaws
pub mod MoveLaws
