mod Copying
mod Classes
mod Reading
mod Passing
mod Whole
