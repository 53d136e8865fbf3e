mod Found
mod BareNames
mod Names
mod Blocks
mod InOrder
