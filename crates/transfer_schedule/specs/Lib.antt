pub mod Beginning
pub mod Numbers
pub mod Table
pub mod Calls
pub mod Account
pub mod Laws
pub mod Alone
