-- The theorems behind least turns, over the definitions of the page model.

-- The principle of optimality, for any graph of states.
pub mod optimality
-- Turns as a sum of what each page costs.
pub mod turns
-- The instance: pages as a graph from any origin, and its best way as the best list.
pub mod pages
-- Books, whose chapters are such lists.
pub mod books
-- The published model: document 01's rules and numbers are the paper's.
pub mod published
