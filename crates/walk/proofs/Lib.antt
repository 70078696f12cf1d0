mod Advances
mod Delays
mod Searches
mod Stages
