pub mod ResultLaws
pub mod ReadLaws
pub mod EarlyLaws
pub mod DecisionLaws
pub mod OutputLaws
pub mod EndsLaws
pub mod StatusLaws
