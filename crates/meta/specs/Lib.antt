pub mod Spares
pub mod TurnLaws
pub mod SparesLaws
pub mod Addressed
