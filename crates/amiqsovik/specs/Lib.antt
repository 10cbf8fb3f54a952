pub mod Words
pub mod WordLaws
pub mod Result
pub mod ResultLaws
pub mod StepsLaws
