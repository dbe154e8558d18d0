pub mod CallLists
pub mod Made
