mod ReadLemmas
mod Scratching
mod Stretches
