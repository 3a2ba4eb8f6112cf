-- Definitions first; the theorems about them are in `Laws/`.
pub mod Short
pub mod Laws
