pub mod Automaton
pub mod Proper
pub mod Accepted
pub mod Form
pub mod WordsLaws
pub mod Valid
pub mod FormAccepts
pub mod Arrays
