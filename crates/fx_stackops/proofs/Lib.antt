pub mod Stacks
pub mod Multiples
mod Products
mod Pairs
