pub mod scripts
pub mod flights
pub mod simulations
pub mod logged
pub mod drawn
