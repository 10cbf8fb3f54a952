pub mod Fitting
pub mod Bitmaps
pub mod Chaining
