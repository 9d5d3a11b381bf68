pub mod Counting
pub mod Reaches
pub mod Passed
pub mod Clusters
pub mod Rows
pub mod Marking
pub mod Replies
pub mod Renumbered
