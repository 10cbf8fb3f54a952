pub mod Batch
pub mod CallLaws
pub mod BatchLaws
pub mod JoinedLaws
pub mod RunningLaws
pub mod Demand3Theorem
