-- Definitions first; the theorems about them are in `Laws/`.
pub mod Code
pub mod Writer
pub mod Laws
