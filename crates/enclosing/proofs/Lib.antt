pub mod ClimbLaws
pub mod Climbs
