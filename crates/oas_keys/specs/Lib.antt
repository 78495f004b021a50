pub mod Keys
pub mod Numbers
pub mod Reading
pub mod Steps
pub mod Laws
