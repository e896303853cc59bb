pub mod Unbroken
pub mod Player
pub mod Calls
