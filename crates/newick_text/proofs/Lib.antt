pub mod Laws
pub mod Complete
pub mod Sound
pub mod Productions
pub mod FirstBad
