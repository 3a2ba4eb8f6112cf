-- Definitions first; the theorems about them are in `Laws/`.
pub mod Bytes
pub mod Sheet
pub mod Laws
