pub mod Bisect
pub mod Turns
pub mod RuleLaws
pub mod RunPartLaws
pub mod RunLaws
