pub mod DeviceLemmas
mod TextLemmas
