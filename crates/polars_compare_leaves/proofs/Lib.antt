mod Examples
mod JoinedBits
mod Slots
mod Stored
mod Strings
mod Tested
mod Truths
mod ViewExamples
