pub mod LogLaws
pub mod AcceptedLaws
pub mod EncoderLaws
pub mod ReaderLaws
