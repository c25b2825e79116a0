mod Space
mod Number
mod Literal
