pub mod FieldsLaws
pub mod BlockLaws
pub mod AcceptedLaws
pub mod WrittenLaws
pub mod EditionLaws
