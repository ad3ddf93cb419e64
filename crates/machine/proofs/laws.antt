-- Laws, each file named for the definition that it is about.
pub mod Answer
pub mod At
pub mod Branch
pub mod Count
pub mod Does
pub mod Edition
pub mod Failing
pub mod Goes
pub mod Heard
pub mod Itself
pub mod Reachable
pub mod Right
pub mod Safe
pub mod Shown
pub mod Walks
