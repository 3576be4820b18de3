pub mod InStep
pub mod Exchange
pub mod Asking
pub mod Laws
