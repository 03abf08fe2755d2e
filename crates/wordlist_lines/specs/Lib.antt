pub mod FirstLine
pub mod FirstLineLaws
pub mod Again
pub mod FaultLaws
pub mod BytesLaws
