mod Formats
mod Reporting
mod Servings
mod Countings
mod Threes
