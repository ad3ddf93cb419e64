-- The claims on one page.
pub mod Demands
