pub mod GaugeLaws
pub mod GaugeTheorem
pub mod GaugeExamples
