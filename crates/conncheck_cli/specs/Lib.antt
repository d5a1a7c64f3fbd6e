pub mod ReadsUpTo
