pub mod OneMore
pub mod Standing
pub mod NearLabels
