mod Missing
mod Raw
mod Trees
mod Pairs
mod Sized
mod Listed
