-- How many counted calls a round makes.
pub mod BoundsSet
pub mod BoundsGiven
pub mod CallsPaid
pub mod LimitsWorkedOut
pub mod LimitThere
