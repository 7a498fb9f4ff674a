pub mod Tests
pub mod FirstOut
pub mod OnlyReads
pub mod Workers
pub mod Gates
