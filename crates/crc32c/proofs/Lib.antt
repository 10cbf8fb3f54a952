pub mod InjectiveLaws
mod ChunkLaws
