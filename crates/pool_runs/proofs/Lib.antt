mod Enough
mod Playable
mod Settling
