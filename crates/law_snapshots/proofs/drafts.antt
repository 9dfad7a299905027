mod Whole
mod Costs
