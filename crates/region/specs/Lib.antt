-- What the table of the regions says of a new one (Look), and whether the new one can be given (Admit); the script that lays
-- it out, step by step (Layout), and over pieces of full length in a row (Pushed, Row); one piece laid out (Piece), and pieces
-- in a row (Pieces); the new one in the table (Entered).
pub mod Look
pub mod Admit
pub mod Layout
pub mod Pushed
pub mod Piece
pub mod Pieces
pub mod Row
pub mod Entered
