mod Ordered
mod Pairs
