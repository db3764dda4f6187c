-- What is claimed of the public calls together: each call's claim as a record, and the demands about them.
pub mod Claim
pub mod Demand
