pub mod InLine
