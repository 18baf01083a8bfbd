-- Words copied, layouts by their names, and the laws of copying, seeking and freeing.
pub mod Words
pub mod Names
pub mod laws
