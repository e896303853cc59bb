pub mod ChannelEnumLaws
