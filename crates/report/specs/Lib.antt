pub mod Progress
pub mod Sum
pub mod Text
