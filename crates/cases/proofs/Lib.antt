mod Answered
mod Framed
mod Computed
mod Floored
mod Costs
mod Order
mod Places
