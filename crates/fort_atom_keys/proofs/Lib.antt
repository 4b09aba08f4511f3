pub mod AtomLabelKeys
