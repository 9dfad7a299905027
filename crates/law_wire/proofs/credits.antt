pub mod CallLaws
pub mod ExchangeLaws
pub mod Rows
