pub mod FindingsByNumber
