mod Parted
mod Saying
mod Sound
