pub mod Gauge
pub mod Ones
pub mod OnesLaws
pub mod PagesLaws
pub mod QuotientLaws
