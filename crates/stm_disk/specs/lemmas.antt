pub mod MemoryFileLaws
pub mod DiskRigLaws
