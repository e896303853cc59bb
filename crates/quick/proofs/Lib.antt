pub mod VoicesLaws
pub mod Engines
