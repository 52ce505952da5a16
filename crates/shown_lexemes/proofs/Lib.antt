pub mod ShownTexts
mod SmallTable
