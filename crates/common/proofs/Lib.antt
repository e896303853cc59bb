pub mod BitsLaws
pub mod ChannelLaws
