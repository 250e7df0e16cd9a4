pub mod Offers
pub mod Goes
