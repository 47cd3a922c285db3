mod Judged
mod GateClauses
mod Filling
