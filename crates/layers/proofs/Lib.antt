mod Bounds
mod Limiting
mod Remembering
