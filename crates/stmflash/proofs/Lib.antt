pub mod Typed
pub mod Protecting
pub mod DeviceUse
pub mod WriteUse
pub mod TaskUse
pub mod Printed
