-- What a list of records answered in one go promises.
pub mod ListAnswered
