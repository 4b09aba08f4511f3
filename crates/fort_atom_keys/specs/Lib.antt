pub mod KeysView
