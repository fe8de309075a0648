mod Rounding
mod Greatest
mod Counting
mod Chains
mod Framing
mod Gathering
mod Rows
mod Joining
