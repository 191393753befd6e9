pub mod SlipLemmas
mod HaveReasons
