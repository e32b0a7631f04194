pub mod Distinct
pub mod Laws
pub mod Numbers
pub mod Told
