pub mod LayoutTags
pub mod StructureTags
pub mod NoTags
pub mod SignatureTags
pub mod Symbols
