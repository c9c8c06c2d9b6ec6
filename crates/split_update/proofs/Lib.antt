mod Cutting
mod Halves
mod Leaving
mod Making
mod RunLaws
mod Runs
mod Scratch
mod Updating
