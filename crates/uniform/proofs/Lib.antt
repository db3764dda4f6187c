pub mod RefersBy
pub mod MayLive
pub mod LowestBy
pub mod Among
pub mod UniformCall
