pub mod UnbrokenLaws
pub mod PlayerLaws
pub mod Demand3
