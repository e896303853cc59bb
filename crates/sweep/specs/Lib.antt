pub mod Constants
pub mod SweepModulate
