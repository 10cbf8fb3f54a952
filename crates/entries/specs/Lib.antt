pub mod Tests
pub mod Next
pub mod TakenLaws
pub mod NextLaws
pub mod WalkedLaws
pub mod Counts
