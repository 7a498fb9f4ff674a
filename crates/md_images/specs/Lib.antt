-- How an image may be had.
pub mod Images
-- Images in memory: names, each with the device that stands under it.
pub mod MemImages
-- The places of images in memory as contracts see them.
pub mod MemPlaces
-- Where a read fails.
pub mod Places
-- A view of a device, with nothing written over it.
pub mod Overlays
-- A device that is only looked at, as contracts see it.
pub mod Seen
-- The devices that stand under the image words: how they are taken out, and put back.
pub mod Taking
