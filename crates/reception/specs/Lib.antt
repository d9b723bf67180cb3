pub mod Costs
pub mod Layers
pub mod LayerLaws
pub mod Spans
pub mod SpanLists
