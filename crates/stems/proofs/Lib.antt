pub mod StemsLaws
pub mod FrameLaws
pub mod MixLaws
pub mod InRun
