-- The laws of these definitions: what rewriting and merging keep, that the tests are exact, and safety.
pub mod Bools
pub mod Nth
pub mod Count
pub mod Rewriting
pub mod Grow
pub mod Merged
pub mod Ranked
pub mod Factor
pub mod Safety
pub mod Tests
pub mod Value
pub mod Unsafe
pub mod Sum
pub mod Fixpoint
pub mod Joined
pub mod Sharing
pub mod Search
