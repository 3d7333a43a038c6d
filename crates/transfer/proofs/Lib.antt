-- Laws of transfers.
pub mod FrontLaws
pub mod TestedWalk
pub mod PairLaws
pub mod AlongLaws
pub mod AddressLists
pub mod PairAnswers
pub mod ListingLaws
pub mod PairLists
pub mod CallAnswers
