pub mod DistanceLaws
pub mod LiveLaws
pub mod PitchLaws
pub mod EnvelopeLaws
pub mod SweepModulateLaws
pub mod SampleLaws
pub mod ChannelEnumLaws
