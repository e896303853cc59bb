pub mod Log
pub mod Encoder
