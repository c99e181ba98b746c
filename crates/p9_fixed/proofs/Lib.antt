pub mod Results
pub mod Counted
pub mod Parted
