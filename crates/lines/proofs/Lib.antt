pub mod InputLaws
pub mod WordsLaws
