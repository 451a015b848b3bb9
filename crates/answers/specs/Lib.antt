-- How answers are printed.
pub mod Printed
