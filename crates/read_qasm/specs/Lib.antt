-- Definitions first; the theorems about them are in `Laws/`.
pub mod Long
pub mod Laws
