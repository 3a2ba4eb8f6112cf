-- Definitions first; the theorems about them are in `Laws/`.
pub mod Reduction
pub mod Result
pub mod Taken
pub mod Laws
