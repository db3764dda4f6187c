-- Laws of site blocks.
pub mod IsBlock
pub mod BlockGround
pub mod InBoth
pub mod SpotFound
pub mod SpotCall
pub mod MemberFound
pub mod ClearCall
pub mod StartCall
pub mod StoreIn
pub mod SiteSet
