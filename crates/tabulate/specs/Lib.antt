pub mod Readings
pub mod Tables
pub mod Flow
pub mod Reflectance
