-- A sink into a new file in which blocks of zeros become holes, and why such a file is not made.
pub mod CodedTexts
pub mod SparseLemmas
-- Copies of disks that lack sectors.
pub mod MaskLemmas
