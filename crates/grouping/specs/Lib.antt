-- Definitions first; the theorems about them are in `Laws/`.
pub mod Grouping
pub mod Laws
