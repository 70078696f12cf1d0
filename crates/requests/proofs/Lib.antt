mod Making
mod Turns
