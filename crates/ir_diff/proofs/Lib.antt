pub mod Places
pub mod Members
pub mod Cuts
pub mod Laws
pub mod Ascents
