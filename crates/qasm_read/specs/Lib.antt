-- Definitions first; the theorems about them are in `Laws/`.
pub mod Statements
pub mod Laws
