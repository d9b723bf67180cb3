pub mod Triangles
pub mod Extending
