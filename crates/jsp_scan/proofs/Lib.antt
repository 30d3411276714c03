pub mod Available
pub mod Choosing
pub mod Retaining
pub mod Paging
pub mod Holding
