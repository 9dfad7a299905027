mod Serving
mod Shapes
