pub mod Laws
pub mod UndoLaws
pub mod Back
