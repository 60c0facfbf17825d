mod Clap
mod Decimals
mod Laws
mod Requests
