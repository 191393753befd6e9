pub mod Outlet
pub mod Scene
pub mod Script
pub mod Made
