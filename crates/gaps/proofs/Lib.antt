pub mod CleanType
