pub mod Constants
pub mod Core
