pub mod Promise
pub mod ChecksForm
pub mod StepsLaws
pub mod SpeltLaws
