pub mod Known
pub mod LoopLaws
pub mod SumLaws
pub mod ChainedLaws
