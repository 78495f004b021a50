pub mod FrontLemmas
pub mod RectangleLemmas
pub mod NamedLemmas
pub mod ListLemmas
pub mod PolygonLemmas
pub mod PathLemmas
