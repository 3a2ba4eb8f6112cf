-- Definitions first; the theorems about them are in `Laws/`.
pub mod Output
pub mod Input
pub mod Laws
