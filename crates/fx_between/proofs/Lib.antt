pub mod Laying
pub mod Named
pub mod Sweeping
pub mod Contouring
