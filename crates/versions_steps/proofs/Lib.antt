-- Laws that the code's proofs cite, here and in the calls.
pub mod PutLaw
pub mod FlushLaw
pub mod AskedLaw
pub mod ForecastLaw
pub mod OrderedLaw
pub mod StoreLaw
