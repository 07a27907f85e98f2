pub mod DiskFileLaws
pub mod SimulatorFileLaws
pub mod SimulatorRigLaws
