pub mod Meaning
pub mod Clauses
pub mod Seating
pub mod Books
pub mod Reading
pub mod Laws
