-- The definitions of Boichut, Hugot and Boiret, and the tests that compute them.
pub mod Lists
pub mod Term
pub mod Automaton
pub mod Rewriting
pub mod Critical
pub mod Preorder
pub mod Value
pub mod Sharing
