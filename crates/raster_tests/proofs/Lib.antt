pub mod Bridged
