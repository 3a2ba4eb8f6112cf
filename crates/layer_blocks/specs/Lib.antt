-- Definitions first; the theorems about them are in `Laws/`.
pub mod Output
pub mod Laws
