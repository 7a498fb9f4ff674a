-- Images under their masks.
pub mod Masks
-- Which map is of which image.
pub mod Words
-- Which of the images are copies, and what each lacks.
pub mod Copies
-- Which copy a map says itself that it is of.
pub mod OwnLines
