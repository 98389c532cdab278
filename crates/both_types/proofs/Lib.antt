pub mod HeadLaws
pub mod QuietLaws
pub mod SilentLaws
