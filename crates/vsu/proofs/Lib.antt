pub mod CoreLaws
pub mod RangeLaws
pub mod RunLaws
pub mod StepLaws
pub mod MutesLaws
pub mod Figures
