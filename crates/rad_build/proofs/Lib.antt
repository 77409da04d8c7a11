pub mod BlockItems
pub mod Finding
pub mod FileTurns
pub mod UsersFiles
pub mod Saying
pub mod RealmsSaid
pub mod ClientsSaid
