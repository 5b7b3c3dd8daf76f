pub mod Requests
pub mod Order
