-- Definitions first; the theorems about them are in `Laws/`.
pub mod Text
pub mod Writer
pub mod Laws
