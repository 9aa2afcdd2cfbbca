-- How long the lent tables must be (Length), how they are filled (Fill), and that init makes the empty heap (Initial).
pub mod Length
pub mod Fill
pub mod Initial
