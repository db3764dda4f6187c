pub mod CommonOfAll
pub mod PairNamed
