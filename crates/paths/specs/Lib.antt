pub mod RowSum
