mod Drawing
mod Sending
