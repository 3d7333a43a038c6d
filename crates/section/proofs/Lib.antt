-- Laws of accepted sections, and of the answers of this crate.
pub mod StridedLaws
-- the count
pub mod Differences
pub mod CaseLaws
-- the questions and what they lead to
pub mod TripletAnswers
pub mod StridedSections
pub mod SectionAnswers
-- steps
pub mod FallLaws
pub mod StepAnswers
-- places
pub mod Windows
pub mod PlaceLaws
pub mod GoingLaws
pub mod ElementLaws
-- shares
pub mod ShareLaws
-- the public calls
pub mod CallAnswers
