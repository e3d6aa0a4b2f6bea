pub mod Gcd
pub mod Bezout
pub mod Lcm
pub mod Rule
pub mod Room
pub mod Pairs
