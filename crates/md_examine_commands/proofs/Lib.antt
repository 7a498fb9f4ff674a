-- A report that was put out, an output that failed under it, and a part that was not read.
mod Reported
-- One image more that is looked at.
mod ImagesLooked
-- Texts in which no byte is escaped.
mod PlainWords
-- The object of a scan that finds no array.
mod NoArray
