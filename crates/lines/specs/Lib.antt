pub mod Input
pub mod Words
