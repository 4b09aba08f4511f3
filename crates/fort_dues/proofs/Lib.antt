pub mod DueLists
