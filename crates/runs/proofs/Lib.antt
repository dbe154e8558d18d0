pub mod CallList
