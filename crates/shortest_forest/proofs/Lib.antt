pub mod BaselineLaws
pub mod NeighbourLaws
pub mod BreadthFirstLaws
pub mod SameBoard
pub mod HopLaws
pub mod PassLaws
pub mod Forests
pub mod ClimbLaws
pub mod Connected
pub mod UnderWay
pub mod Passing
pub mod StampLaws
pub mod WayLaws
pub mod NearestLaws
pub mod ForestLaws
mod SampleParents
pub mod ArcWays
pub mod LastGoal
