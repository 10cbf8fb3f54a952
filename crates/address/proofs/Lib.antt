pub mod Leading
pub mod Role
pub mod BucketLaws
