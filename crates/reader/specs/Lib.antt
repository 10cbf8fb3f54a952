pub mod Known
pub mod KnownLaws
pub mod Roles
pub mod RolesLaws
pub mod Job
pub mod JobLaws
