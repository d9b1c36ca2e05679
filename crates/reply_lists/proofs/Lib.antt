mod PartLemmas
mod BodyLemmas
mod NumberLemmas
