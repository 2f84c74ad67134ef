-- What the public contracts say.
pub mod Belonging
pub mod FleetState
pub mod TooMany
pub mod Alone
-- What the code and its proofs need besides. No public clause reaches it.
pub mod inside
