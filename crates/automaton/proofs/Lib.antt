pub mod AcceptedLaws
pub mod ValidLaws
pub mod FormAcceptsLaws
pub mod EncodeLaws
pub mod Examples
