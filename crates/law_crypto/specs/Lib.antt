pub mod ntlm
