mod Leaves
mod Kept
