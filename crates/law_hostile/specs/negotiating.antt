pub mod Negotiating
