pub mod Signed
pub mod Told
