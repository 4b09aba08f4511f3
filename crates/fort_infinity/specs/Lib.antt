pub mod ManyCounts
pub mod StateListsView
pub mod Children
pub mod RankTests
pub mod Rankings
pub mod LeastUnranked
