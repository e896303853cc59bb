pub mod TextLaws
pub mod SumLaws
