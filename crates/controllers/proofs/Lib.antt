pub mod MaskParts
pub mod LevelLaws
pub mod AboveLaws
pub mod DeviceLaws
pub mod InputLaws
