-- Definitions first; the theorems about them are in `Laws/`.
pub mod Crossing
pub mod Laws
