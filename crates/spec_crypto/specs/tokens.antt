pub mod Acceptor
pub mod Answer
pub mod Der
pub mod Formulas
pub mod Messages
pub mod Pairs
pub mod Spnego
pub mod Tokens
