pub mod SweepModulateLaws
