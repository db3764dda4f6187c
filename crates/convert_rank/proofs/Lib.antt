pub mod EntryKinds
pub mod RankOf
pub mod PairRank
pub mod ScalarRank
pub mod OverScalar
