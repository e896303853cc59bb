pub mod RecorderLaws
