pub mod DeviceText
