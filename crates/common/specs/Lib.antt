pub mod Constants
pub mod Bits
pub mod Channel
