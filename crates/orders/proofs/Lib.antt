pub mod MeantStruct
pub mod OrderOf
