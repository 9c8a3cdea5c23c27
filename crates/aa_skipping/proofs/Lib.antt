pub mod Elements
mod Strongest
mod Hits
mod Numbers
mod Texts
mod Finding
mod Searching
mod Leading
mod Changing
mod Answering
mod Targets
mod Running
