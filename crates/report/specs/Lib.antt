pub mod Desks
pub mod Pages
pub mod Printed
pub mod Reports
