pub mod Creates
