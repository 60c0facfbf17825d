mod Clauses
mod Compiled
mod Ended
mod Known
mod Refusals
