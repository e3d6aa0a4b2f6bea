pub mod FirstPlaces
pub mod Listings
