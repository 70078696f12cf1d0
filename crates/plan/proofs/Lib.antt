mod Deciding
mod Keeping
mod Linking
mod Promised
