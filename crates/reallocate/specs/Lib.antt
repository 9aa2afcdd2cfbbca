-- A resize in half grains: what its functions say and leave (Does), and its steps from the last to the first: the old block
-- is left once another was taken (Left), the payload goes elsewhere (Elsewhere), or down (Slid), or stays
-- where it is (Resize).
pub mod Does
pub mod Left
pub mod Elsewhere
pub mod Slid
pub mod Resize
