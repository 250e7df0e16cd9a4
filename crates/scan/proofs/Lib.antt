pub mod HeadLaws
pub mod Laws
