pub mod Records
pub mod Results
pub mod Run
