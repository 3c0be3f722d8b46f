mod Choices
mod Joining
