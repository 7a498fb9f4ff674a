-- What is told and asked of copies that have data where they lack it by their maps.
pub mod StrayData
