mod Each
mod Sorting
pub mod Sides
mod Ids
pub mod Walks
mod Keys
mod Chained
mod Named
mod Arriving
mod Items
mod Adding
mod Removing
mod Taking
mod Rows
mod Shortening
mod Joining
mod Picked
mod Next
mod Looking
mod Accounts
mod After
mod Ended
mod Past
mod Expired
mod Retained
mod Keeping
mod Viewed
