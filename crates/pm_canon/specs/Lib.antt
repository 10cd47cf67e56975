pub mod Laws
pub mod MeetingOrder
pub mod steps
pub mod VertexList
