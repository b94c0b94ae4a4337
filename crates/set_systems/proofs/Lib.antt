pub mod Load
pub mod Members
pub mod Systems
