pub mod Places
pub mod Closing
pub mod Lists
pub mod Kept
pub mod Numbers
pub mod Laws
