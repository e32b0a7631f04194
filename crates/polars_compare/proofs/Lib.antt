mod Arrays
mod Bits
mod Examples
mod Missing
mod Orders
mod Stores
mod Trees
