pub mod ArgumentLemmas
pub mod EventListLemmas
pub mod FormLemmas
pub mod NumberLemmas
pub mod Examples
pub mod Words
