mod Parts
mod Asking
mod Reading
mod Beginnings
mod Gathering
mod Auditing
