-- Definitions first; the theorems about them are in `Laws/`.
pub mod Columns
pub mod Laws
