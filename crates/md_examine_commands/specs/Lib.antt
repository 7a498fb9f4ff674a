-- What the commands that show one image give.
pub mod Examining
-- Images that show no member.
pub mod Unshown
-- Of which arrays images are members, as text.
pub mod ScanText
-- The same as an object.
pub mod ScanObject
-- What reading the superblocks of images gives, one after another.
pub mod EachImage
