pub mod Smallest
pub mod Clusters
pub mod Body
pub mod Searches
pub mod GivenRows
pub mod Stores
pub mod RoundTrip
