-- Laws that the proofs of the code share, and the proofs of the claims in specs/.
pub mod OneMoreRecord
pub mod AnswerWidth
