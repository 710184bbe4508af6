pub mod Seating
pub mod Panels
pub mod Single
pub mod Laws
