mod WholeLaws
mod Placed
mod Within
mod Starts
mod Methods
mod Passes
