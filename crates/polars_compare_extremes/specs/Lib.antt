pub mod BestNumber
pub mod BestNumberLaws
pub mod Extremes
pub mod Places
pub mod Preference
pub mod PreferenceLaws
pub mod Scalars
pub mod Truths
