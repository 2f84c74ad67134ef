-- How the faults of the layers below become those of calls over texts, and why lines spell no map.
pub mod Faults
pub mod Maps
