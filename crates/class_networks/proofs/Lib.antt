mod Ranges
mod OneOrder
mod TupleNumbers
mod JudgedRows
mod ClassNumbers
mod TrueRows
mod WholeNetworks
