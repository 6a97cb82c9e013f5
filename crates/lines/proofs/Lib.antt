pub mod Many
pub mod Laws
