pub mod ImageLaws
pub mod RoundTrip
pub mod CallLaws
