pub mod CanonicalNames
pub mod CarriedDegrees
pub mod CarriedMeeting
pub mod CarriedSizes
pub mod CarriedStructure
pub mod ClassesKept
pub mod CycleSizes
pub mod DegreeCounts
pub mod DegreeRules
pub mod DegreeTotals
pub mod DegreesTaken
pub mod DistanceLemmas
pub mod DistanceRounds
pub mod DistancesBack
pub mod DualMaps
pub mod EdgeNumbering
mod EulerLemmas
mod FaceWalkLemmas
pub mod MarksLemmas
pub mod NumberedEdges
pub mod SameMaps
pub mod SearchLemmas
pub mod SimpleDarts
mod EndsLemmas
pub mod SomeParts
pub mod StructureRotations
pub mod TableLemmas
pub mod TriangulationAnswers
pub mod TwinLemmas
pub mod UniqueCanonical
pub mod UniqueMeeting
pub mod UniqueParts
pub mod WholeMeeting
