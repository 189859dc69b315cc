mod Keeping
mod Finding
mod Naming
mod Applying
mod Running
