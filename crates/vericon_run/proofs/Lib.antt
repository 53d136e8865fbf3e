mod Said
mod Topologies
mod Steps
mod Asked
mod Served
mod Unserved
mod Undisturbed
mod All
