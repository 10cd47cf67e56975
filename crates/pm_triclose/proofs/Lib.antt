mod AheadOrder
mod AheadStems
mod ClosingState
mod ClosingSteps
mod Closings
mod CountedDarts
mod DartKeys
mod DartNumbers
mod FaceCorners
pub mod FaceTriangles
mod InTree
mod InWhole
mod Links
mod NestedDarts
mod NodeHeights
mod Numbers
mod OpenStems
mod PairEnds
pub mod RenamedClosures
pub mod SameClosures
mod SimpleArcs
pub mod SimpleClosures
pub mod SomeClosures
pub mod TreeClosures
mod TreeCorners
mod TreeDarts
mod TreeRing
mod VertexNodes
mod WholeBrackets
mod WholeClosures
mod WholeInOrder
mod WholeOf
mod WholePlane
