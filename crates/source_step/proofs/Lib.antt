pub mod Written
pub mod Once
pub mod Bursting
