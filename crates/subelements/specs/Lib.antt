pub mod Subelements
