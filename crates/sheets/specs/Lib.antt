pub mod Pile
pub mod Draft
pub mod Answer
pub mod Certificate
