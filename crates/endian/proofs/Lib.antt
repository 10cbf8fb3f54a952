pub mod EndianLaws
pub mod PutLaws
