pub mod VoiceLaws
pub mod WriteLaws
pub mod ExchangeLaws
pub mod WorkedLaws
pub mod LogLaws
