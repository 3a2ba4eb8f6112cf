-- Definitions first; the theorems about them are in `Laws/`.
pub mod Unitary
pub mod Reading
pub mod Laws
