pub mod History
pub mod HubSeen
pub mod Turn
pub mod Told
pub mod Leaving
pub mod Serving
pub mod Counting
pub mod Installing
