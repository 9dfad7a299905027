mod Bytes
mod Forms
mod Named
