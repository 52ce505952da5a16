pub mod Made
pub mod ShapesShow
