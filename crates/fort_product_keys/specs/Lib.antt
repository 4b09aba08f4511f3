pub mod ProductViews
pub mod ProgramViews
