-- Definitions first; the theorems about them are in `Laws/`.
pub mod Text
pub mod Reading
pub mod Promise
pub mod Output
pub mod Laws
