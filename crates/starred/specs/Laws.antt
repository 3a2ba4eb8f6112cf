-- Theorems.
pub mod Trials
pub mod Texts
pub mod Lists
pub mod Programs
pub mod Unitaries
