-- The laws that the proofs here cite.
mod LinkLaw
mod FillLaw
mod GroupsLaw
mod OutcomeLaw
