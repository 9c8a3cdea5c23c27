mod Handed
mod Whole
