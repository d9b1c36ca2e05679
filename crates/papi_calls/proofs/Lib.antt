mod Known
mod Calling
mod Opening
