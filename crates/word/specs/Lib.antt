-- Definitions first; the theorems about them are in `Laws/`.
pub mod Word
pub mod Laws
