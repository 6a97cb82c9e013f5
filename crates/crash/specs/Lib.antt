pub mod Loops
pub mod Refinement
pub mod RefinementBy
