-- Definitions first; the theorems about them are in `Laws/`.
pub mod Trials
pub mod Texts
pub mod Lists
pub mod Programs
pub mod Unitaries
pub mod Laws
