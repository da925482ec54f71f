pub mod MarkLaws
pub mod PartLaws
mod MaskLaws
mod CountLaws
