pub mod TestedLaws
pub mod JournalledLaws
pub mod EventLaws
pub mod Demand3Theorem
pub mod PlanCallLaws
pub mod HalvesTheorem
