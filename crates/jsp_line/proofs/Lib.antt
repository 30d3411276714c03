mod Writing
mod Turning
mod Putting
