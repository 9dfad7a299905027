pub mod Logon
