pub mod Exploring
pub mod Answer
pub mod ListedTargets
pub mod ShortLabels
pub mod LabelsInside
pub mod LeadingExploring
pub mod LeadingLoops
pub mod LedTargets
