pub mod UnmetTicks
pub mod UnmetTickLaws
pub mod ColumnDemandLaws
