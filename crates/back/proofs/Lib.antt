pub mod FindLaws
pub mod UndoLaws
pub mod CallLaws
pub mod Unique
