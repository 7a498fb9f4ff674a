pub mod RoleLists
pub mod Sums
pub mod Order
pub mod Joined
pub mod Encoded
pub mod SameSum
pub mod Sealed
pub mod Unique
