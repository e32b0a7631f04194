pub mod Laws
pub mod Narrow
pub mod Normal
pub mod Same
