pub mod Common
mod Building
mod Flag
mod FaultOf
mod Good
mod GoodWalk
mod Stated
