-- Where a page may end, and its price: the definitions first, then the laws about them.
pub mod Stop
pub mod Price
pub mod laws
