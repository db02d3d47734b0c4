mod Numbered
mod Held
