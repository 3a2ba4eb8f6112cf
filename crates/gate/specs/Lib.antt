-- Definitions first; the theorems about them are in `Laws/`.
pub mod Product
pub mod Reading
pub mod Stretch
pub mod Promise
pub mod Laws
