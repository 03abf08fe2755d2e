pub mod Keys
pub mod KeysLoops
pub mod KeysLaws
