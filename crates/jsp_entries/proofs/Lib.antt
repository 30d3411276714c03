mod Declaring
mod Given
mod Numbers
mod Searching
mod Writing
