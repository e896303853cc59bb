pub mod Constants
pub mod Waveform
pub mod ChannelEnum
