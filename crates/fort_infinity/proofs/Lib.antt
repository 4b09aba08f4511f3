mod ListLaws
mod ChildrenLaws
mod RankingLaws
mod RoundLaws
mod TryLaws
mod LeastLaws
mod ManyMarks
mod ChoiceLaws
