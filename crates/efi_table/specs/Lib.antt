pub mod Shapes
pub mod Images
pub mod Layouts
pub mod Laws
