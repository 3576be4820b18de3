pub mod SeatModel
pub mod Serving
pub mod Placing
pub mod Hands
pub mod History
