mod Examples
mod Joined
mod Listed
mod Lowest
mod Marked
mod Present
mod Seen
mod Within
