pub mod Upto
pub mod CoreLaws
