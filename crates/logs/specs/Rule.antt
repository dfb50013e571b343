-- The definitions. To be held beside document 01: Stream, Parted, Line, Log. What the functions leave: Written, Reading, Serving.
pub mod Stream
pub mod Parted
pub mod Line
pub mod Log
pub mod Written
pub mod Reading
pub mod Serving
