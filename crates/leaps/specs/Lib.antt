pub mod Distance
pub mod Live
pub mod Pitch
pub mod Envelope
pub mod SweepModulate
pub mod Sample
pub mod ChannelEnum
