mod Numbering
mod Knowing
mod Staying
mod Among
mod Standing
