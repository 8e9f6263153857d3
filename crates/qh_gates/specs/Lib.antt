-- The definitions that contracts cite: the tables of the gates, their terms, circuits, and what an uncut circuit does.
pub mod Tables
pub mod Rows
pub mod Terms
pub mod TermRows
pub mod Circuits
pub mod Faults
pub mod Evolution
pub mod Names
