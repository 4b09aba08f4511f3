pub mod StateLaws
pub mod ClassLaws
pub mod SymbolLaws
pub mod MakingLaws
pub mod RankLaws
