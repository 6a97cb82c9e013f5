pub mod Code
pub mod Field
pub mod Stripe
