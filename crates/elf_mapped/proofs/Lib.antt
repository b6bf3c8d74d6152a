mod Kept
mod Named
mod NoteParts
mod Short
