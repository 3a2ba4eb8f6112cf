-- Definitions first; the theorems about them are in `Laws/`.
pub mod Count
pub mod Laws
