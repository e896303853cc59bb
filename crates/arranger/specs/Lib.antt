pub mod Arranger
