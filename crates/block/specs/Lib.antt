-- Definitions first; the theorems about them are in `Laws/`.
pub mod Block
pub mod Laws
