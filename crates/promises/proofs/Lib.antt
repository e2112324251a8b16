-- Each statement of the page by the laws that it cites, and what puts these into the page's words.
pub mod Calls
pub mod Files
pub mod Kept
pub mod Lists
pub mod Pages
pub mod Plans
pub mod Rules
pub mod Search
pub mod Sheet
