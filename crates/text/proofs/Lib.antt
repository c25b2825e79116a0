mod Digits
mod Places
mod Loops
mod Quotes
