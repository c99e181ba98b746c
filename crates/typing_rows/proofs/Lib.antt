pub mod RowsStatements
pub mod RowsDeclarations
