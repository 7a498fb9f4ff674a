-- What callers see of a sink into a file with holes.
pub mod Sparse
