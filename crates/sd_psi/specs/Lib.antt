pub mod Items
pub mod Tables
pub mod Forms
pub mod Rewriting
pub mod Undone
pub mod Access
pub mod OurCat
