pub mod WordLemmas
pub mod HalvingLemmas
