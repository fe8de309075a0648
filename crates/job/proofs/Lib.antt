mod Zipping
mod Questions
