mod Checks
mod Expired
mod Opens
mod Records
mod Replies
