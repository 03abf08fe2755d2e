pub mod Graph
pub mod Impossible
pub mod CostToGo
pub mod Extended
pub mod BestWay
pub mod Cells
pub mod Reached
pub mod Table
